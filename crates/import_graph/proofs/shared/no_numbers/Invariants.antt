use Rattle.std.proofs.Common.{◌≡◌, None, vec_len}
use Rattle.std.specs.Prelude.{All}
use Rattle.import_graph.proofs.shared.no_numbers.Given as goal

abbrev pub invariant-loop : goal.invariant-loop
invariant-loop l = record { length_is : vec_len l.numbers ≡ l.counter; none : All (λ n. n ≡ None) l.numbers.items }
