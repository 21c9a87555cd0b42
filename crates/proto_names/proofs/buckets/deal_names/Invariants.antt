use Rattle.std.proofs.Common.{map, take}
use Rattle.proto_names.specs.Buckets.{AreDealt}
use Rattle.proto_names.specs.Entries.{entries_of}
use Rattle.proto_names.proofs.buckets.deal_names.Given as goal

-- those so far
abbrev pub invariant-loop-number : goal.invariant-loop-number
invariant-loop-number l = AreDealt (entries_of l.file (take l.number l.hashes)) (map (λ list. list.items) l.fn.lists.items) (map (λ list. list.items) l.lists.items)
