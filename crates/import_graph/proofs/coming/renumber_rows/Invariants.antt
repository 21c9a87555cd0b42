use Rattle.std.proofs.Common.{◌≡◌, take, drop, map}
use Rattle.import_graph.specs.Coming.{number_after}
use Rattle.import_graph.proofs.coming.renumber_rows.Given as goal

-- those so far have the new numbers, the others are as they were
abbrev pub invariant-loop-row : goal.invariant-loop-row
invariant-loop-row l = (take l.row-index l.row-items ≡ map (map (number_after l.at)) (take l.row-index l.fn.rows.items)) × (drop l.row-index l.row-items ≡ drop l.row-index l.fn.rows.items)
