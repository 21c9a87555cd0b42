-- What is left of a tour once a file is entered.
use Rattle.std.proofs.Common.{◌≡◌, ℕ, zero, suc, ◌+◌, ◌<◌, List, [], ◌∷◌, Bool, true, false, length, get_or, arith}
use Rattle.std.proofs.Math.ListN.{set}
use Rattle.import_graph.specs.Tours.{to_come}

pub to_come-set : (entered : List Bool) (next : List (List ℕ)) (f : ℕ) → f < length entered → length next ≡ length entered → get_or entered f true ≡ false
    → to_come (set entered f true) next + (length (get_or next f []) + 1) ≡ to_come entered next
to_come-set [] next f lt same first = absurd (omega arith)
to_come-set (e ∷ es) [] f lt same first = absurd (omega (arith, same))
to_come-set (true ∷ es) (row ∷ rows) zero lt same first = absurd (cc (first))
to_come-set (false ∷ es) (row ∷ rows) zero lt same first = omega arith
to_come-set (true ∷ es) (row ∷ rows) (suc f) lt same first = to_come-set es rows f (omega arith) (omega (arith, same)) first
to_come-set (false ∷ es) (row ∷ rows) (suc f) lt same first = let rest = to_come-set es rows f (omega arith) (omega (arith, same)) first in omega (arith, rest)
