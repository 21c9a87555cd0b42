use Rattle.std.proofs.Common.{take}
use Rattle.proto_names.specs.Buckets.{AreCopies}
use Rattle.proto_names.proofs.buckets.Buckets.copy.Given as goal

-- those so far are copies
abbrev pub invariant-loop-bucket : goal.invariant-loop-bucket
invariant-loop-bucket l = AreCopies (take l.bucket-index l.bucket-items) l.list.items
