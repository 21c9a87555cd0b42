-- Tokens of a text, from the front on.
use Rattle.std.proofs.Common.{◌≡◌, ℕ, suc, zero, ◌+◌, ◌-◌, ◌<◌, ◌≤◌, List, [], ◌∷◌, ◌++◌, length, take, drop, ap, sym, ◌∙◌, subst, arith, length-drop, append_assoc, append-nil, inl, inr}
use Rattle.std.proofs.lemmas.List.{take_rest}
use Rattle.std.specs.Prelude.{not, ◌==◌}
use Rattle.std.proofs.lemmas.List.Sums.{prefix_len-le-length}
use Rattle.proto_lex.specs.declared.token.Token.{Token}
use Rattle.proto_lex.specs.declared.token.Kind.{Kind}
use Rattle.proto_lex.specs.declared.token.Kind.TheVariants.{Ident, Int, Float, Str, Symbol, Bad}
use Rattle.proto_lex.specs.declared.token.Reason.TheVariants.{Character, Number, String, Comment}
use Rattle.proto_lex.specs.Forms.{IsForm}
use Rattle.proto_lex.specs.Tokens.{IsToken, IsGap, done, trivia, AreTokensFrom, AreTokens}
use Rattle.proto_lex.specs.Trivia.{IsTrivia}

-- trivia before them
pub trivia_before : (text : List ℕ) (at n : ℕ) (ts : List Token) → IsTrivia (drop at text) n → AreTokensFrom text (at + n) ts → AreTokensFrom text at ts
trivia_before text at n [] is_trivia after = trivia n is_trivia after
trivia_before text at n (t ∷ ts) is_trivia after = (trivia n is_trivia after.0, after.1, after.2)

-- a token before them
pub token_before : (text : List ℕ) (at n : ℕ) (kind : Kind) (ts : List Token) → 0 < n → IsToken (drop at text) kind n → AreTokensFrom text (at + n) ts
    → AreTokensFrom text at (record { kind = kind; start = at; end = at + n } ∷ ts)
token_before text at n kind ts some token after =
    let len : n ≡ (at + n) - at = omega arith in
    (done, record { ordered = omega arith; token = subst (λ k. IsToken (drop at text) kind k) len token }, after)

pub trivia_within : (rest : List ℕ) (n : ℕ) → IsTrivia rest n → (0 < n) × (n ≤ length rest)
trivia_within [] n (inl space) = absurd space
trivia_within [] n (inr (inl line)) = absurd line
trivia_within [] n (inr (inr block)) = absurd block
trivia_within (b ∷ bs) n (inl space) = (omega (arith, space.1), omega (arith, space.1))
trivia_within (b ∷ []) n (inr (inl line)) = absurd line
trivia_within (b ∷ []) n (inr (inr block)) = absurd block
trivia_within (b ∷ c ∷ bs) n (inr (inl line)) =
    let within = prefix_len-le-length (λ x. not (x == 10)) bs in
    (omega (arith, line.2), omega (arith, line.2, within))
trivia_within (b ∷ c ∷ bs) n (inr (inr block)) = (omega (arith, block.3), omega (arith, block.3, block.4))

pub no_empty_form : (k : Kind) → IsForm k [] → ⊥
no_empty_form Ident form = form
no_empty_form Int form = form.0
no_empty_form Float form = form.0
no_empty_form Str form = form
no_empty_form Symbol form = form
no_empty_form (Bad Number) form = form.0
no_empty_form (Bad String) form = form
no_empty_form (Bad Comment) form = form
no_empty_form (Bad Character) form = form

pub token_some : (rest : List ℕ) (k : Kind) (n : ℕ) → IsToken rest k n → 0 < n
token_some rest k zero token = absurd (no_empty_form k token.form)
token_some rest k (suc n) token = omega arith

-- ts are the tokens of the text up to an offset: any list of those from there on completes them
pub record TokensBefore (text : List ℕ) (at : ℕ) (ts : List Token) : Type 0 where
  pub in_range : at ≤ length text
  pub complete : (more : List Token) → AreTokensFrom text at more → AreTokens text (ts ++ more)

pub after_trivia : (text : List ℕ) (at n : ℕ) (ts : List Token) → TokensBefore text at ts → IsTrivia (take (length text - at) (drop at text)) n → TokensBefore text (at + n) ts
after_trivia text at n ts before is_trivia =
    let here : IsTrivia (drop at text) n = subst (λ rest. IsTrivia rest n) (take_rest text at) is_trivia in
    let within = trivia_within (drop at text) n here in
    record {
      in_range = omega (arith, within.1, before.in_range, length-drop at text);
      complete = λ more after. before.complete more (trivia_before text at n more here after);
    }

pub after_token : (text : List ℕ) (at n : ℕ) (kind : Kind) (ts new : List Token) → TokensBefore text at ts → IsToken (take (length text - at) (drop at text)) kind n
    → new ≡ ts ++ record { kind = kind; start = at; end = at + n } ∷ [] → TokensBefore text (at + n) new
after_token text at n kind ts new before is_token pushed =
    let here : IsToken (drop at text) kind n = subst (λ rest. IsToken rest kind n) (take_rest text at) is_token in
    let token : Token = record { kind = kind; start = at; end = at + n } in
    record {
      in_range = omega (arith, here.in_range, before.in_range, length-drop at text);
      complete = λ more after.
          subst (AreTokens text) (sym (append_assoc ts (token ∷ []) more) ∙ ap (λ l. l ++ more) (sym pushed))
          (before.complete (token ∷ more) (token_before text at n kind more (token_some (drop at text) kind n here) here after));
    }

pub at_text_end : (text : List ℕ) (at : ℕ) (ts : List Token) → TokensBefore text at ts → length text ≤ at → AreTokens text ts
at_text_end text at ts before past =
    let whole : at ≡ length text = omega (arith, before.in_range) in
    subst (AreTokens text) (append-nil ts) (before.complete [] (subst (IsGap text at) whole done))

pub trivia_inside : (text : List ℕ) (at n : ℕ) → at ≤ length text → IsTrivia (take (length text - at) (drop at text)) n → at + n ≤ length text
trivia_inside text at n inside is_trivia =
    let within = trivia_within (drop at text) n (subst (λ rest. IsTrivia rest n) (take_rest text at) is_trivia) in
    omega (arith, within.1, length-drop at text)
