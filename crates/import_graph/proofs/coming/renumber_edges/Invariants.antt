use Rattle.std.proofs.Common.{◌≡◌, ◌++◌, drop, map, take}
use Rattle.import_graph.specs.Coming.{edge_after}
use Rattle.import_graph.proofs.coming.renumber_edges.Given as goal

-- those so far name files by the new numbers
abbrev pub invariant-loop-place : goal.invariant-loop-place
invariant-loop-place l = l.edges ≡ map (edge_after l.at) (take l.place l.fn.edges) ++ drop l.place l.fn.edges
