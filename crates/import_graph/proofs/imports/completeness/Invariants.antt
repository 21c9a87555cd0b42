use Rattle.std.proofs.Common.{◌≡◌, take, map}
use Rattle.import_graph.specs.Imports.{is_complete_in}
use Rattle.import_graph.proofs.imports.completeness.Given as goal

abbrev pub invariant-loop-file : goal.invariant-loop-file
invariant-loop-file l = l.flags.items ≡ map (is_complete_in l.files) (take l.file-index l.files)
