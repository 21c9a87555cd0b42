use Rattle.std.proofs.Common.{◌≡◌, ◌++◌, drop, map, take}
use Rattle.import_graph.specs.Coming.{number_after}
use Rattle.import_graph.proofs.coming.renumber.Given as goal

-- those so far have the new numbers
abbrev pub invariant-loop-place : goal.invariant-loop-place
invariant-loop-place l = l.row ≡ map (number_after l.at) (take l.place l.fn.row) ++ drop l.place l.fn.row
