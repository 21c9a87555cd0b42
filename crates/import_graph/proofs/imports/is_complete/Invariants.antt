use Rattle.std.proofs.Common.{◌≡◌, take, true}
use Rattle.std.specs.List.{list_all}
use Rattle.import_graph.specs.Imports.{is_analysed}
use Rattle.import_graph.proofs.imports.is_complete.Given as goal

abbrev pub invariant-loop-edge : goal.invariant-loop-edge
invariant-loop-edge l = list_all (λ x. is_analysed l.files x.target) (take l.edge-index l.file.edges) ≡ true
