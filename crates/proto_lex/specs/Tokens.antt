-- The tokens of a text.
use Rattle.std.specs.Prelude.{ℕ, zero, suc, ◌+◌, ◌-◌, ◌<◌, ◌≤◌, List, [], ◌∷◌, Option, Some, None, length, take, drop, nat_eq, if◌then◌else◌}
use Rattle.std.specs.List.{starts_with}
use Rattle.proto_lex.specs.declared.token.Kind.{Kind}
use Rattle.proto_lex.specs.declared.token.Token.{Token}
use Rattle.proto_lex.specs.Forms.{IsForm}
use Rattle.proto_lex.specs.Kinds.{kind_of}
use Rattle.proto_lex.specs.Trivia.{IsTrivia, trivia_len}

-- the first n bytes of rest are a form of this kind, no more of them are any form, and no trivia begins here
pub record IsToken (rest : List ℕ) (kind : Kind) (n : ℕ) : Type 0 where
  pub in_range : n ≤ length rest
  pub form : IsForm kind (take n rest)
  pub longest : (k : Kind) (m : ℕ) → n < m → m ≤ length rest → IsForm k (take m rest) → ⊥
  pub no_trivia : (m : ℕ) → IsTrivia rest m → ⊥

-- whole pieces of trivia reach from one offset of the text to another
pub data IsGap (text : List ℕ) : ℕ → ℕ → Type 0 where
  done : {i : ℕ} → IsGap text i i
  trivia : {i j : ℕ} (n : ℕ) → IsTrivia (drop i text) n → IsGap text (i + n) j → IsGap text i j

-- a token of the text at its offsets
pub record IsTokenAt (text : List ℕ) (t : Token) : Type 0 where
  pub ordered : t.start < t.end
  pub token : IsToken (drop t.start text) t.kind (t.end - t.start)

-- the tokens of the text from an offset on: a gap before each of them, and one to the text's end
abbrev pub AreTokensFrom : List ℕ → ℕ → List Token → Type 0
AreTokensFrom text at [] = IsGap text at (length text)
AreTokensFrom text at (t ∷ ts) = IsGap text at t.start × IsTokenAt text t × AreTokensFrom text t.end ts

-- the bytes of a U+FEFF, where one stands at the front
abbrev pub byte_order_mark_len : List ℕ → ℕ
byte_order_mark_len text = if starts_with nat_eq text (0xEF ∷ 0xBB ∷ 0xBF ∷ []) then 3 else 0

-- The tokens of the whole text: each is the longest form at its start, and what stands outside them is a
-- U+FEFF at the front, and trivia.
abbrev pub AreTokens : List ℕ → List Token → Type 0
AreTokens text ts = AreTokensFrom text (byte_order_mark_len text) ts

-- the longest front of at most n bytes that has a form, with its kind
abbrev pub longest : ℕ → List ℕ → Option (Kind × ℕ)
longest zero rest = None
longest (suc n) rest = elim (kind_of (take (suc n) rest)) [ Some kind ↦ Some (kind, suc n) | None ↦ longest n rest ]

-- The tokens from an offset of the text on, in at most n steps: trivia is skipped, and elsewhere the longest
-- front that has a form is a token.
abbrev pub tokens_from : List ℕ → ℕ → ℕ → List Token
tokens_from text zero at = []
tokens_from text (suc n) at =
    elim (trivia_len (drop at text)) [
      | Some len ↦ tokens_from text n (at + len)
      | None ↦ elim (longest (length text - at) (drop at text)) [
        | Some found ↦ record { kind = found.0; start = at; «end» = at + found.1 } ∷ tokens_from text n (at + found.1)
        | None ↦ []
      ]
    ]

-- The tokens of the whole text. Each step takes a byte or more, so as many steps as bytes suffice.
unfoldable pub tokens : List ℕ → List Token
tokens text = tokens_from text (length text) (byte_order_mark_len text)
