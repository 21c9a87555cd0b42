use Rattle.proto_names.proofs.Entries.{no_entries}
use Rattle.proto_names.proofs.name_entries.NameEntries.new.Goals as goal

pub invariant_of-result : goal.invariant_of-result
invariant_of-result c = rw (c.new.ensures.items, c.new-2.ensures.items, c.new-3.ensures.items) no_entries
