use Rattle.std.proofs.Common.{◌≡◌, take, filter}
use Rattle.std.specs.List.{filter_map}
use Rattle.import_graph.proofs.imports.FileImports.public_targets.Given as goal

abbrev pub invariant-loop-edge : goal.invariant-loop-edge
invariant-loop-edge l = l.found ≡ filter_map (λ x. x.target) (filter (λ x. x.is_public) (take l.edge-index l.self.edges))
