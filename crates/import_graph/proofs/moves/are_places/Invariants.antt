use Rattle.std.proofs.Common.{◌≡◌, Some, length, map, take}
use Rattle.import_graph.specs.Moves.{place}
use Rattle.import_graph.proofs.moves.are_places.Given as goal

-- the same holds of those so far
abbrev pub invariant-loop-at : goal.invariant-loop-at
invariant-loop-at l = record {
  as_many : length l.old ≡ length l.new;
  so_far : map Some (take l.at l.new) ≡ map (place l.to) (take l.at l.old);
}
