use Rattle.std.proofs.Common.{arith}
use Rattle.proto_names.proofs.Dealing.{all_empty}
use Rattle.proto_names.proofs.buckets.dealt.Goals as goal

pub loop-run-init : goal.loop-run-init
loop-run-init c = (omega (arith, c.in_ok-lists.ensures.0), λ n inside. all_empty (λ list. list.items) c.in_ok-lists.lists.items c.in_ok-lists.ensures.1 n)
