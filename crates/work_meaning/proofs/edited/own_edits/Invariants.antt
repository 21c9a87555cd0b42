use Rattle.std.proofs.Common.{map}
use Rattle.std.specs.Prelude.{option_map, string_bytes}
use Rattle.work_meaning.specs.Edited.{edit_view}
use Rattle.work_meaning.proofs.TextsByFile.{AreOwn}
use Rattle.work_meaning.proofs.edited.own_edits.Given as goal

abbrev pub invariant-loop-file : goal.invariant-loop-file
invariant-loop-file l = AreOwn l.own (map (option_map string_bytes) l.texts) l.file (map edit_view l.edits.items)
