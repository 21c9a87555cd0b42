use Rattle.std.proofs.Common.{map}
use Rattle.proto_names.specs.Buckets.{AreAllInOrder}
use Rattle.proto_names.proofs.buckets.Buckets.in_order.Given as goal

-- those so far
abbrev pub invariant-loop-entries : goal.invariant-loop-entries
invariant-loop-entries g l = AreAllInOrder (g.O.EntryOrder.order l.files) (map (λ list. list.items) l.yielded) l.list.items
