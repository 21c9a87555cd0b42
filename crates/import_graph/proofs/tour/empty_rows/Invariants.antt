use Rattle.std.proofs.Common.{◌≡◌, [], vec_len}
use Rattle.std.specs.Prelude.{All}
use Rattle.import_graph.proofs.tour.empty_rows.Given as goal

abbrev pub invariant-loop : goal.invariant-loop
invariant-loop l = record { length_is : vec_len l.rows ≡ l.counter; empty : All (λ row. row ≡ []) l.rows.items }
