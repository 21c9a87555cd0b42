use Rattle.std.proofs.Common.{◌≡◌, length, map, take}
use Rattle.import_graph.specs.Imports.{edges_at}
use Rattle.import_graph.specs.Moves.{moved_import, new_import}
use Rattle.import_graph.specs.Outlooks.{imports_outlook}
use Rattle.import_graph.proofs.moves.are_imports_moved.Given as goal

-- the same is said of those so far
abbrev pub invariant-loop-import : goal.invariant-loop-import
invariant-loop-import l = record {
  all : l.count ≡ length (edges_at l.a l.from);
  as_many : length (edges_at l.a l.from) ≡ length (edges_at l.b l.at);
  so_far : map new_import (take l.import (imports_outlook l.b l.at)) ≡ map (moved_import l.to) (take l.import (imports_outlook l.a l.from));
}
