use Rattle.std.proofs.Common.{take}
use Rattle.import_graph.specs.Arrivals.{NobodyImports}
use Rattle.import_graph.proofs.graph.Graph.is_imported.Given as goal

-- none of the files so far imports the path
abbrev pub invariant-loop-file : goal.invariant-loop-file
invariant-loop-file l = NobodyImports (take l.file l.files) l.path
