-- Tokens lie in the text, one behind the other.
use Rattle.std.proofs.Common.{ℕ, ◌+◌, ◌≤◌, List, [], ◌∷◌, length, arith}
use Rattle.proto_lex.specs.declared.token.Token.{Token}
use Rattle.proto_lex.specs.Tokens.{IsGap, done, trivia, AreTokensFrom, AreTokens, byte_order_mark_len}
use Rattle.proto_lex.specs.Laws.{IsOrderedFrom}

pub gap_forward : (text : List ℕ) (i j : ℕ) → IsGap text i j → i ≤ j
gap_forward text i j done = omega arith
gap_forward text i j (trivia n is_trivia after) = let more = gap_forward text (i + n) j after in omega (arith, more)

ordered_from : (text : List ℕ) (at : ℕ) (ts : List Token) → AreTokensFrom text at ts → IsOrderedFrom (length text) at ts
ordered_from text at [] f = gap_forward text at (length text) f
ordered_from text at (t ∷ ts) f =
    (gap_forward text at t.start f.0, f.1.ordered, ordered_from text t.end ts f.2)

pub tokens_are_ordered : (text : List ℕ) (ts : List Token) → AreTokens text ts → IsOrderedFrom (length text) (byte_order_mark_len text) ts
tokens_are_ordered text ts f = ordered_from text (byte_order_mark_len text) ts f
