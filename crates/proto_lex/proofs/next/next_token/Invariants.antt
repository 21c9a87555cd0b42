use Rattle.std.proofs.Common.{◌-◌, length}
use Rattle.proto_lex.proofs.Rest.{IsSkipped}
use Rattle.proto_lex.proofs.next.next_token.Given as goal

abbrev pub invariant-loop-at : goal.invariant-loop-at
invariant-loop-at l = IsSkipped l.text l.fn.from l.at

abbrev pub decreases-loop-at : goal.decreases-loop-at
decreases-loop-at l = length l.text - l.at
