use Rattle.std.proofs.Common.{map, take}
use Rattle.proto_names.specs.Buckets.{AreDealt}
use Rattle.proto_names.proofs.buckets.deal.Given as goal

-- those so far
abbrev pub invariant-loop-entry : goal.invariant-loop-entry
invariant-loop-entry l = AreDealt (take l.entry-index l.entries) (map (λ list. list.items) l.fn.lists.items) (map (λ list. list.items) l.lists.items)
