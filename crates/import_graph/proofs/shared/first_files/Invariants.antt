use Rattle.std.proofs.Common.{◌≡◌, map, take}
use Rattle.import_graph.specs.Condensed.{representative}
use Rattle.import_graph.proofs.shared.first_files.Given as goal

abbrev pub invariant-loop-target : goal.invariant-loop-target
invariant-loop-target l = l.found.items ≡ map (representative l.representatives) (take l.target-index l.targets)
