use Rattle.std.proofs.Common.{◌≡◌, take, map}
use Rattle.import_graph.specs.Imports.{edge_of}
use Rattle.import_graph.proofs.imports.imports_of.Given as goal

abbrev pub invariant-loop-import : goal.invariant-loop-import
invariant-loop-import l = l.edges ≡ map (edge_of l.files) (take l.import-index l.facts.imports)
