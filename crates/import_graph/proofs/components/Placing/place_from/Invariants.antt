use Rattle.std.proofs.Common.{◌+◌}
use Rattle.import_graph.specs.Components.{Settles, weight}
use Rattle.import_graph.proofs.components.Placing.place_from.Given as goal

abbrev pub invariant-loop-file : goal.invariant-loop-file
invariant-loop-file l = Settles l.imports l.none (l.number + 1) l.self

abbrev pub decreases-loop-file : goal.decreases-loop-file
decreases-loop-file l = weight l.none l.self
