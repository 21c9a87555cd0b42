use Rattle.std.proofs.Common.{◌≡◌, ◌<◌, ◌↔◌, ℕ, vec_len}
use Rattle.import_graph.specs.Walks.{Lists}
use Rattle.import_graph.proofs.condensed.rows_once.Given as goal

abbrev pub invariant-loop-row : goal.invariant-loop-row
invariant-loop-row l = record { length_is : vec_len l.found ≡ l.row-index; same : (a b : ℕ) → a < vec_len l.found → Lists l.found.items a b ↔ Lists l.rows a b }
