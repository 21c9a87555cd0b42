use Rattle.std.proofs.Common.{map, take}
use Rattle.import_graph.specs.Shared.{Fills}
use Rattle.import_graph.proofs.shared.SharedLists.fill.Given as goal

abbrev pub invariant-loop-start : goal.invariant-loop-start
invariant-loop-start l = Fills l.number l.initial.self l.self (map (λ s. s.file) (take l.start-index l.run))
