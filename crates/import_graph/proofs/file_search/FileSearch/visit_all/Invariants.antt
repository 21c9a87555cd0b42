use Rattle.std.proofs.Common.{take}
use Rattle.import_graph.specs.FileSearches.{VisitsAll}
use Rattle.import_graph.proofs.file_search.FileSearch.visit_all.Given as goal

abbrev pub invariant-loop-file : goal.invariant-loop-file
invariant-loop-file l = VisitsAll l.initial.self l.self (take l.file-index l.files)
