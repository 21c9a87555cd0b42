use Rattle.std.proofs.Common.{arith}
use Rattle.proto_names.proofs.Dealing.{both_dealt}
use Rattle.proto_names.proofs.Entries.{next_entry}
use Rattle.proto_names.proofs.buckets.deal_names.Goals as goal

pub loop-number-preserved : goal.loop-number-preserved
loop-number-preserved c =
    rw (next_entry c.args.file c.args.hashes.now c.loop-number.number 0 (omega arith))
    (both_dealt _ _ _ _ _ c.loop-number.invariant c.in_ok-deal_one.ensures)
