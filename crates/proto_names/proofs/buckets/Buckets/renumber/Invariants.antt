use Rattle.std.proofs.Common.{◌≡◌, take, drop}
use Rattle.proto_names.specs.Moved.{AreMoved}
use Rattle.proto_names.proofs.buckets.Buckets.renumber.Given as goal

-- those so far have other numbers, the others are as they were
abbrev pub invariant-loop-bucket : goal.invariant-loop-bucket
invariant-loop-bucket l = (AreMoved l.change l.at (take l.bucket-index l.fn.self.list.items) (take l.bucket-index l.bucket-items)) × (drop l.bucket-index l.bucket-items ≡ drop l.bucket-index l.fn.self.list.items)
