use Rattle.std.proofs.Common.{◌≡◌, take, drop, map}
use Rattle.import_graph.specs.Coming.{file_after}
use Rattle.import_graph.proofs.coming.renumber_imports.Given as goal

-- those so far name files by the new numbers, the others are as they were
abbrev pub invariant-loop-file : goal.invariant-loop-file
invariant-loop-file l = (take l.file-index l.file-items ≡ map (file_after l.at) (take l.file-index l.fn.graph.items)) × (drop l.file-index l.file-items ≡ drop l.file-index l.fn.graph.items)
