use Rattle.std.proofs.Common.{◌≡◌, ◌++◌, List, take, length}
use Rattle.proto_names.specs.declared.hashed.HashedDecl.{HashedDecl}
use Rattle.proto_names.specs.Buckets.{AreInBuckets}
use Rattle.proto_names.proofs.buckets.Buckets.add.Given as goal

-- those so far are added
abbrev pub invariant-loop-one : goal.invariant-loop-one
invariant-loop-one g l = record {
  as_many : length l.self.list.items ≡ length l.fn.self.list.items;
  come : (entries : List HashedDecl) → AreInBuckets (g.O.EntryOrder.order l.files) entries l.fn.self.list.items → AreInBuckets (g.O.EntryOrder.order l.files) (entries ++ take l.one-index l.come) l.self.list.items;
}
