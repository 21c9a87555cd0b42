use Rattle.std.proofs.Common.{take}
use Rattle.import_graph.specs.Components.{PlacesAll}
use Rattle.import_graph.proofs.components.Placing.place_all.Given as goal

abbrev pub invariant-loop-file : goal.invariant-loop-file
invariant-loop-file l = PlacesAll l.none l.number l.initial.self l.self (take l.file-index l.files)
