-- Where an item of a body ends.
use Rattle.std.proofs.Common.{◌≡◌, ◌<◌, Bool, true, false, List, [], ◌∷◌, length, arith}
use Rattle.std.specs.Prelude.{◌||◌}
use Rattle.proto_tree.specs.declared.lexeme.Lexeme.{Lexeme}
use Rattle.proto_tree.specs.declared.lexeme.Body.{Body}
use Rattle.proto_tree.specs.Cut.{ends, is_finished, is_stray}

some_true : (a b : Bool) → (a || b || true) ≡ false → ⊥
some_true true true e = cc
some_true true false e = cc
some_true false true e = cc
some_true false false e = cc

-- an item that doesn't end has tokens behind it
pub ends-rest : (body : Body) (item rest : List Lexeme) → ends body item rest ≡ false → 0 < length rest
ends-rest body item [] e = absurd (some_true (is_finished body item) (is_stray body item) e)
ends-rest body item (t ∷ ts) e = omega arith
