use Rattle.std.proofs.Common.{◌≡◌, ◌≤◌, ◌++◌, List, length, take}
use Rattle.std.specs.Cmp.{IsTotalOrder}
use Rattle.std.specs.declared.cmp.Ordering.{Ordering}
use Rattle.proto_names.specs.declared.hashed.HashedDecl.{HashedDecl}
use Rattle.proto_names.specs.Buckets.{AreInBuckets}
use Rattle.proto_names.proofs.buckets.Buckets.leave_out.Given as goal

abbrev pub decreases-loop-left : goal.decreases-loop-left
decreases-loop-left l = l.left

-- those from here on are left out
abbrev pub invariant-loop-left : goal.invariant-loop-left
invariant-loop-left l = record {
  as_many : length l.self.list.items ≡ length l.fn.self.list.items;
  within : l.left ≤ length l.gone;
  out : (order : HashedDecl → HashedDecl → Ordering) (entries : List HashedDecl) → IsTotalOrder order → AreInBuckets order (entries ++ l.gone) l.fn.self.list.items → AreInBuckets order (entries ++ take l.left l.gone) l.self.list.items;
}
