use Rattle.std.proofs.Common.{◌≡◌, length, map, take}
use Rattle.import_graph.specs.Imports.{edges_at}
use Rattle.import_graph.specs.Outlooks.{import_outlook}
use Rattle.import_graph.proofs.outlook.are_imports_alike.Given as goal

-- the same is said of those so far
abbrev pub invariant-loop-import : goal.invariant-loop-import
invariant-loop-import l = record {
  all : l.count ≡ length (edges_at l.a l.file);
  as_many : length (edges_at l.a l.file) ≡ length (edges_at l.b l.file);
  so_far : map (λ x. import_outlook l.a l.file x.target) (take l.import (edges_at l.a l.file)) ≡ map (λ x. import_outlook l.b l.file x.target) (take l.import (edges_at l.b l.file));
}
