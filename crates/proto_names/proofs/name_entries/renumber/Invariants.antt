use Rattle.std.proofs.Common.{◌≡◌, take, drop, map}
use Rattle.proto_names.specs.Entries.{with_renumbered}
use Rattle.proto_names.proofs.name_entries.renumber.Given as goal

-- those so far are renumbered, the others as they were
abbrev pub invariant-loop-entry : goal.invariant-loop-entry
invariant-loop-entry l = (take l.entry-index l.entry-items ≡ map (with_renumbered l.by) (take l.entry-index l.fn.entries.items)) × (drop l.entry-index l.entry-items ≡ drop l.entry-index l.fn.entries.items)
