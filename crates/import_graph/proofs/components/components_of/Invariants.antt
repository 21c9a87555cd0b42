use Rattle.std.proofs.Common.{◌≡◌, []}
use Rattle.import_graph.specs.Components.{Settles}
use Rattle.import_graph.proofs.components.components_of.Given as goal

abbrev pub invariant-loop-number : goal.invariant-loop-number
invariant-loop-number l = record { settled : Settles l.imports l.none l.number l.placing; done : l.placing.pending.items ≡ [] }
