-- The tokens of a text lie in it.
use Rattle.std.proofs.Common.{ℕ, Bool, zero, suc, ◌≤◌, List, [], ◌∷◌, All, arith, length}
use Rattle.std.specs.Prelude.{not, filter}
use Rattle.std.proofs.lemmas.List.Elements.{All-filter, All-map}
use Rattle.proto_lex.specs.declared.token.Token.{Token}
use Rattle.proto_lex.specs.Laws.{IsOrderedFrom}
use Rattle.proto_tree.specs.Lexeme.{IsWithin, is_bad, lexeme_of, lexemes}
use Rattle.proto_tree.specs.Others.{LiesIn}

-- where tokens stand in order from an offset on, the offset is no further than the end
reaches : (len at : ℕ) (ts : List Token) → IsOrderedFrom len at ts → at ≤ len
reaches len at [] h = h
reaches len at (t ∷ ts) h = let after : t.«end» ≤ len = reaches len t.«end» ts h.2 in omega (arith, h.0, h.1)

pub ordered_within : (len at : ℕ) (ts : List Token) → IsOrderedFrom len at ts → All (IsWithin len) ts
ordered_within len at [] h k d m = absurd (omega (arith, m))
ordered_within len at (t ∷ ts) h zero d m = (omega (arith, h.1), reaches len t.«end» ts h.2)
ordered_within len at (t ∷ ts) h (suc k) d m = ordered_within len t.«end» ts h.2 k d (omega (arith, m))

-- and so do they as the grammar sees them
pub lexemes-within : (text : List ℕ) (ts : List Token) → All (IsWithin (length text)) ts → All (LiesIn (length text)) (lexemes text ts)
lexemes-within text ts within =
    let good : Token → Bool = λ t. not (is_bad t.kind) in
    All-map (LiesIn (length text)) (lexeme_of text) (filter good ts) (All-filter good (IsWithin (length text)) ts within)
