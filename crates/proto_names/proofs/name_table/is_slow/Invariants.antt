use Rattle.std.proofs.Common.{◌≡◌, length}
use Rattle.proto_names.proofs.name_table.is_slow.Given as goal

-- one for each bucket so far
abbrev pub invariant-loop-bucket : goal.invariant-loop-bucket
invariant-loop-bucket l = length l.lens.items ≡ l.bucket-index
