-- The form of each kind of token, as a fact about the bytes of its span.
use Rattle.std.specs.Prelude.{◌≡◌, ◌≢◌, ◌⊎◌, ℕ, Bool, true, false, List, [], ◌∷◌, MatchBool, nat_lt}
use Rattle.std.specs.List.{AllPass}
use Rattle.std.specs.Str.{byte}
use Rattle.proto_lex.specs.declared.token.Kind.{Kind}
use Rattle.proto_lex.specs.declared.token.Kind.TheVariants.{Ident, Int, Float, Str, Symbol, Bad}
use Rattle.proto_lex.specs.declared.token.Reason.TheVariants.{Character, Number, String, Comment}
use Rattle.proto_lex.specs.declared.bytes.Class.TheVariants as class
use Rattle.proto_lex.specs.Bytes.{class_of, is_name_byte, is_continuation}
use Rattle.proto_lex.specs.Numbers.{IsNumberRun, number_kind}

-- a letter, then letters and digits
abbrev pub IsIdent : List ℕ → Type 0
IsIdent [] = ⊥
IsIdent (b ∷ bs) = (class_of b ≡ class.Letter) × AllPass is_name_byte bs

-- one symbol
abbrev pub IsSymbol : List ℕ → Type 0
IsSymbol [] = ⊥
IsSymbol (b ∷ bs) = (class_of b ≡ class.Symbol) × (bs ≡ [])

-- a byte that stands for itself between the quotes q: no quote q, no backslash and no line feed
abbrev pub IsPlain : ℕ → ℕ → Type 0
IsPlain q b = (b ≢ q) × (b ≢ byte "\\") × (b ≢ byte "\n")

-- Bytes that may follow an opening quote q: plain ones, and pairs of a backslash and any byte but a line
-- feed. Where the string is closed, its quote is the last of them; where it isn't, the last may be a lone
-- backslash.
abbrev pub IsStringRest : ℕ → Bool → List ℕ → Type 0
IsStringRest q closed [] = closed ≡ false
IsStringRest q closed (b ∷ []) = MatchBool closed (b ≡ q) ((b ≢ q) × (b ≢ byte "\n"))
IsStringRest q closed (b ∷ c ∷ bs) =
    (IsPlain q b × IsStringRest q closed (c ∷ bs)) ⊎ ((b ≡ byte "\\") × (c ≢ byte "\n") × IsStringRest q closed bs)

-- a string with its closing quote, or without
abbrev pub IsString : Bool → List ℕ → Type 0
IsString closed [] = ⊥
IsString closed (q ∷ bs) = (class_of q ≡ class.Quote) × IsStringRest q closed bs

-- Bytes that may follow the `/*` of a comment: up to the first `*/` where it is closed, and else without one.
abbrev pub IsCommentRest : Bool → List ℕ → Type 0
IsCommentRest closed [] = closed ≡ false
IsCommentRest closed (b ∷ []) = closed ≡ false
IsCommentRest closed (b ∷ c ∷ bs) =
    ((b ≡ byte "*") × (c ≡ byte "/") × (closed ≡ true) × (bs ≡ [])) ⊎ (((b ≡ byte "*") → (c ≡ byte "/") → ⊥) × IsCommentRest closed (c ∷ bs))

-- `/*` and no `*/`
abbrev pub IsOpenComment : List ℕ → Type 0
IsOpenComment [] = ⊥
IsOpenComment (b ∷ []) = ⊥
IsOpenComment (b ∷ c ∷ bs) = (b ≡ byte "/") × (c ≡ byte "*") × IsCommentRest false bs

-- One character that begins nothing else. One past ASCII is a byte from 128 on, and the continuation
-- bytes after it.
abbrev pub IsOther : List ℕ → Type 0
IsOther [] = ⊥
IsOther (b ∷ bs) = (class_of b ≡ class.Other) × MatchBool (nat_lt b 128) (bs ≡ []) (AllPass is_continuation bs)

-- the bytes have the form of this kind, from the first to the last; no bytes have that of two kinds
abbrev pub IsForm : Kind → List ℕ → Type 0
IsForm Ident bs = IsIdent bs
IsForm Int bs = IsNumberRun bs × (number_kind bs ≡ Int)
IsForm Float bs = IsNumberRun bs × (number_kind bs ≡ Float)
IsForm (Bad Number) bs = IsNumberRun bs × (number_kind bs ≡ Bad Number)
IsForm Str bs = IsString true bs
IsForm (Bad String) bs = IsString false bs
IsForm (Bad Comment) bs = IsOpenComment bs
IsForm Symbol bs = IsSymbol bs
IsForm (Bad Character) bs = IsOther bs
