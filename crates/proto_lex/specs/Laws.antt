-- Laws of a text's tokens.
use Rattle.std.specs.Prelude.{◌≡◌, ◌↔◌, ℕ, ◌<◌, ◌≤◌, List, [], ◌∷◌, Some, length}
use Rattle.proto_lex.specs.declared.token.Kind.{Kind}
use Rattle.proto_lex.specs.declared.token.Token.{Token}
use Rattle.proto_lex.specs.Forms.{IsForm}
use Rattle.proto_lex.specs.Kinds.{kind_of}
use Rattle.proto_lex.specs.Tokens.{AreTokens, byte_order_mark_len, tokens}
use Rattle.proto_lex.specs.Trivia.{IsTrivia, trivia_len}

-- `kind_of` finds the one form that bytes have
abbrev pub KindsAreForms : Type 0
KindsAreForms = (bs : List ℕ) (kind : Kind) → (kind_of bs ≡ Some kind) ↔ IsForm kind bs

-- `trivia_len` finds the one piece of trivia at the front
abbrev pub TriviaIsFound : Type 0
TriviaIsFound = (rest : List ℕ) (n : ℕ) → (trivia_len rest ≡ Some n) ↔ IsTrivia rest n

-- each text has tokens
abbrev pub TokensExist : Type 0
TokensExist = (text : List ℕ) → AreTokens text (tokens text)

-- and no others
abbrev pub TokensAreUnique : Type 0
TokensAreUnique = (text : List ℕ) (ts : List Token) → AreTokens text ts → ts ≡ tokens text

-- tokens stand one behind the other, from an offset on, before the end
abbrev pub IsOrderedFrom : ℕ → ℕ → List Token → Type 0
IsOrderedFrom end at [] = at ≤ end
IsOrderedFrom end at (t ∷ ts) = (at ≤ t.start) × (t.start < t.end) × IsOrderedFrom end t.end ts

-- the tokens of a text stand so
abbrev pub TokensAreOrdered : Type 0
TokensAreOrdered = (text : List ℕ) → IsOrderedFrom (length text) (byte_order_mark_len text) (tokens text)
