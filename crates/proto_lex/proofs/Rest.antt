-- The tokens of a text from an offset on.
use Rattle.std.proofs.Common.{◌≡◌, ℕ, Bool, cond, ◌+◌, ◌-◌, ◌<◌, ◌≤◌, List, [], ◌∷◌, length, take, drop, sym, subst, arith, length-drop}
use Rattle.std.specs.Prelude.{nat_eq}
use Rattle.std.specs.List.{starts_with}
use Rattle.std.proofs.lemmas.List.{take_rest}
use Rattle.proto_lex.specs.declared.token.Kind.{Kind}
use Rattle.proto_lex.specs.declared.token.Token.{Token}
use Rattle.proto_lex.specs.Rest.{tokens_after}
use Rattle.proto_lex.specs.Tokens.{IsToken, IsGap, done, trivia, AreTokensFrom, byte_order_mark_len, tokens}
use Rattle.proto_lex.specs.Trivia.{IsTrivia}
use Rattle.proto_lex.proofs.Cuts.{token_before, token_some, trivia_inside}
use Rattle.proto_lex.proofs.Exists.{mark_inside, tokens_are_from, tokens_exist}
use Rattle.proto_lex.proofs.Order.{gap_forward}
use Rattle.proto_lex.proofs.Unique.{one_list}

after_are_from : (text : List ℕ) (at : ℕ) → at ≤ length text → AreTokensFrom text at (tokens_after text at)
unfolding tokens_after
after_are_from text at within = tokens_are_from text (length text - at) at within (omega (arith, within))

-- the tokens from an offset on are the only list of them
are_after : (text : List ℕ) (at : ℕ) (ts : List Token) → at ≤ length text → AreTokensFrom text at ts → tokens_after text at ≡ ts
are_after text at ts within are = one_list text at (tokens_after text at) ts (after_are_from text at within) are

-- all tokens stand behind the byte order mark, if one is found
pub after_mark : (text : List ℕ) (found : Bool) → found ≡ starts_with nat_eq text (239 ∷ 187 ∷ 191 ∷ []) → tokens text ≡ tokens_after text (cond found 3 0)
after_mark text found is =
    let all : tokens text ≡ tokens_after text (byte_order_mark_len text) =
    one_list text (byte_order_mark_len text) (tokens text) (tokens_after text (byte_order_mark_len text))
    (tokens_exist text) (after_are_from text (byte_order_mark_len text) (mark_inside text)) in
    subst (λ t. tokens text ≡ tokens_after text (cond t 3 0)) (sym is) all

gap_longer : (text : List ℕ) (i j n : ℕ) → IsGap text i j → IsTrivia (drop j text) n → IsGap text i (j + n)
gap_longer text i j n done is_trivia = trivia n is_trivia done
gap_longer text i j n (trivia m first after) is_trivia = trivia m first (gap_longer text (i + m) j n after is_trivia)

-- from an offset of the text on, only trivia stands before a further one
pub record IsSkipped (text : List ℕ) (from at : ℕ) : Type 0 where
  pub in_range : at ≤ length text
  pub gap : IsGap text from at

pub skipped_none : (text : List ℕ) (from : ℕ) → from ≤ length text → IsSkipped text from from
skipped_none text from within = record { in_range = within; gap = done }

pub skipped_trivia : (text : List ℕ) (from at n : ℕ) → IsSkipped text from at → IsTrivia (take (length text - at) (drop at text)) n → IsSkipped text from (at + n)
skipped_trivia text from at n skipped is_trivia =
    let here : IsTrivia (drop at text) n = subst (λ rest. IsTrivia rest n) (take_rest text at) is_trivia in
    record { in_range = trivia_inside text at n skipped.in_range is_trivia; gap = gap_longer text from at n skipped.gap here }

-- the token that stands behind a gap is the first of those from there on
pub record IsFirst (text : List ℕ) (from : ℕ) (t : Token) : Type 0 where
  pub order : (from ≤ t.start) × (t.start < t.end) × (t.end ≤ length text)
  pub value : tokens_after text from ≡ t ∷ tokens_after text t.end

pub first_token : (text : List ℕ) (from at n : ℕ) (kind : Kind) → IsSkipped text from at → IsToken (take (length text - at) (drop at text)) kind n
    → IsFirst text from (record { kind = kind; start = at; end = at + n })
first_token text from at n kind skipped is_token =
    let here : IsToken (drop at text) kind n = subst (λ rest. IsToken rest kind n) (take_rest text at) is_token in
    let some = token_some (drop at text) kind n here in
    let inside : at + n ≤ length text = omega (arith, here.in_range, skipped.in_range, length-drop at text) in
    let forward = gap_forward text from at skipped.gap in
    let more = tokens_after text (at + n) in
    let are = token_before text at n kind more some here (after_are_from text (at + n) inside) in
    record {
      order = (forward, omega (arith, some), inside);
      value = are_after text from (record { kind = kind; start = at; end = at + n } ∷ more) (omega (arith, forward, skipped.in_range)) (skipped.gap, are.1, are.2);
    }

-- where the text ends behind a gap, there is none
pub no_token : (text : List ℕ) (from at : ℕ) → IsSkipped text from at → length text ≤ at → tokens_after text from ≡ []
no_token text from at skipped past =
    let whole : at ≡ length text = omega (arith, skipped.in_range, past) in
    let forward = gap_forward text from at skipped.gap in
    are_after text from [] (omega (arith, forward, skipped.in_range)) (subst (IsGap text from) whole skipped.gap)
