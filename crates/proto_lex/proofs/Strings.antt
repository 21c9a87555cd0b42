-- Where the rest of a string ends.
use Rattle.std.proofs.Common.{◌≡◌, ℕ, suc, zero, ◌+◌, ◌<◌, ◌≤◌, inl, inr, Bool, true, false, List, [], ◌∷◌, length, get_or, take, drop, refl, ap, sym, ◌∙◌, subst, arith, drop-cons, add-one, add-zero, get_or-drop, length-drop}
use Rattle.std.proofs.lemmas.List.{drop_all}
use Rattle.std.specs.Prelude.{◌≢◌}
use Rattle.proto_lex.specs.declared.bytes.Class.TheVariants.{Quote}
use Rattle.proto_lex.specs.Bytes.{class_of, is_letter, is_quote, is_space, is_symbol}
use Rattle.proto_lex.specs.Forms.{IsStringRest, IsPlain}
use Rattle.proto_lex.specs.Scanner.{IsLongestFront}
use Rattle.proto_lex.proofs.LongestFront.{IsLongestFront-cons, Continues, Continues-more, at_place}

-- a byte that stands for itself
plain_cons : (q b : ℕ) (closed : Bool) → IsPlain q b → (xs : List ℕ) → IsStringRest q closed xs → IsStringRest q closed (b ∷ xs)
plain_cons q b true plain [] rest = cc
plain_cons q b false plain [] rest = (plain.0, plain.2)
plain_cons q b closed plain (x ∷ xs) rest = inl (plain, rest)

plain_uncons : (q b : ℕ) (closed : Bool) → IsPlain q b → (xs : List ℕ) → IsStringRest q closed (b ∷ xs) → IsStringRest q closed xs
plain_uncons q b true plain [] rest = absurd (plain.0 rest)
plain_uncons q b false plain [] rest = refl
plain_uncons q b closed plain (x ∷ xs) (inl both) = both.1
plain_uncons q b closed plain (x ∷ xs) (inr escape) = absurd (plain.1 escape.0)

pub string_plain : (q b : ℕ) (bs : List ℕ) (n : ℕ) (closed : Bool) → IsPlain q b
    → IsLongestFront Bool (IsStringRest q) bs n closed → IsLongestFront Bool (IsStringRest q) (b ∷ bs) (suc n) closed
string_plain q b bs n closed plain =
    IsLongestFront-cons Bool (IsStringRest q) (IsStringRest q) b bs n closed (plain_cons q b closed plain) (λ d. plain_uncons q b d plain)

-- a backslash and a byte
abbrev AfterBackslash : ℕ → ℕ → Bool → List ℕ → Type 0
AfterBackslash q b closed xs = IsStringRest q closed (b ∷ xs)

pair_uncons : (q c : ℕ) (closed : Bool) → (xs : List ℕ) → IsStringRest q closed (92 ∷ c ∷ xs) → IsStringRest q closed xs
pair_uncons q c closed xs (inl both) = absurd (both.0.1 refl)
pair_uncons q c closed xs (inr escape) = escape.2

pair_longest : (q c : ℕ) (bs : List ℕ) (n : ℕ) (closed : Bool)
    → IsLongestFront Bool (IsStringRest q) bs n closed → (d : Bool) (m : ℕ) → suc (suc n) < m → m ≤ length (92 ∷ c ∷ bs) → IsStringRest q d (take m (92 ∷ c ∷ bs)) → ⊥
pair_longest q c bs n closed ends d zero above within form = omega arith
pair_longest q c bs n closed ends d (suc zero) above within form = omega arith
pair_longest q c bs n closed ends d (suc (suc m)) above within form = ends.longest d m (omega arith) (omega arith) (pair_uncons q c d (take m bs) form)

pub string_pair : (q c : ℕ) (bs : List ℕ) (n : ℕ) (closed : Bool) → c ≢ 10
    → IsLongestFront Bool (IsStringRest q) bs n closed → IsLongestFront Bool (IsStringRest q) (92 ∷ c ∷ bs) (suc (suc n)) closed
string_pair q c bs n closed no_feed ends = record {
  in_range = omega (arith, ends.in_range);
  form = inr (refl, no_feed, ends.form);
  longest = pair_longest q c bs n closed ends;
}

-- the end of the text
pub string_end : (q : ℕ) → IsLongestFront Bool (IsStringRest q) [] 0 false
string_end q = record { in_range = omega arith; form = refl; longest = λ d m above within form. omega arith }

-- nothing follows the closing quote
after_quote : (q b : ℕ) (bs : List ℕ) → q ≢ 92 → b ≡ q → (d : Bool) (m : ℕ) → 1 < m → m ≤ length (b ∷ bs) → IsStringRest q d (take m (b ∷ bs)) → ⊥
after_quote q b bs no_backslash is_quote d zero above within form = omega arith
after_quote q b bs no_backslash is_quote d (suc zero) above within form = omega arith
after_quote q b [] no_backslash is_quote d (suc (suc m)) above within form = omega arith
after_quote q b (c ∷ bs) no_backslash is_quote d (suc (suc m)) above within (inl both) = both.0.0 is_quote
after_quote q b (c ∷ bs) no_backslash is_quote d (suc (suc m)) above within (inr escape) = no_backslash (sym is_quote ∙ escape.0)

pub string_quote : (q b : ℕ) (bs : List ℕ) → q ≢ 92 → b ≡ q → IsLongestFront Bool (IsStringRest q) (b ∷ bs) 1 true
string_quote q b bs no_backslash is_quote = record { in_range = omega arith; form = is_quote; longest = after_quote q b bs no_backslash is_quote }

-- a line feed ends it
at_feed : (q : ℕ) (bs : List ℕ) → q ≢ 10 → (d : Bool) (m : ℕ) → 0 < m → m ≤ length (10 ∷ bs) → IsStringRest q d (take m (10 ∷ bs)) → ⊥
at_feed q bs no_feed d zero above within form = omega arith
at_feed q bs no_feed true (suc zero) above within form = no_feed (sym form)
at_feed q bs no_feed false (suc zero) above within form = form.1 refl
at_feed q [] no_feed d (suc (suc m)) above within form = omega arith
at_feed q (c ∷ bs) no_feed d (suc (suc m)) above within (inl both) = both.0.2 refl
at_feed q (c ∷ bs) no_feed d (suc (suc m)) above within (inr escape) = cc

pub string_feed : (q : ℕ) (bs : List ℕ) → q ≢ 10 → IsLongestFront Bool (IsStringRest q) (10 ∷ bs) 0 false
string_feed q bs no_feed = record { in_range = omega arith; form = refl; longest = at_feed q bs no_feed }

-- a backslash with nothing to take
at_backslash : (q : ℕ) (bs : List ℕ) → (0 < length bs → get_or bs 0 0 ≡ 10) → (d : Bool) (m : ℕ) → 1 < m → m ≤ length (92 ∷ bs) → IsStringRest q d (take m (92 ∷ bs)) → ⊥
at_backslash q bs feed d zero above within form = omega arith
at_backslash q bs feed d (suc zero) above within form = omega arith
at_backslash q [] feed d (suc (suc m)) above within form = omega arith
at_backslash q (c ∷ bs) feed d (suc (suc m)) above within (inl both) = both.0.1 refl
at_backslash q (c ∷ bs) feed d (suc (suc m)) above within (inr escape) = escape.1 (feed (omega arith))

pub string_backslash : (q : ℕ) (bs : List ℕ) → q ≢ 92 → (0 < length bs → get_or bs 0 0 ≡ 10) → IsLongestFront Bool (IsStringRest q) (92 ∷ bs) 1 false
string_backslash q bs no_backslash feed = record { in_range = omega arith; form = (λ e. no_backslash (sym e), λ e. omega (arith, e)); longest = at_backslash q bs feed }

-- The same at an offset of the bytes after the quote.
module _ (q : ℕ) (quote : class_of q ≡ Quote) (bs : List ℕ) (at : ℕ) (continues : Continues Bool (IsStringRest q) (IsStringRest q) bs at) where
  no_backslash : q ≢ 92
  unfolding class_of is_letter is_quote is_space is_symbol
  no_backslash e = let wrong : class_of 92 ≡ Quote = subst (λ b. class_of b ≡ Quote) e quote in cc

  no_feed : q ≢ 10
  unfolding class_of is_letter is_quote is_space is_symbol
  no_feed e = let wrong : class_of 10 ≡ Quote = subst (λ b. class_of b ≡ Quote) e quote in cc

  pub at_quote : at < length bs → get_or bs at 0 ≡ q → IsLongestFront Bool (IsStringRest q) bs (at + 1) true
  at_quote inside is_quote =
      continues 1 true (at_place Bool (IsStringRest q) bs at 1 true inside (string_quote q (get_or bs at 0) (drop (at + 1) bs) no_backslash is_quote))

  pub at_line_feed : at < length bs → get_or bs at 0 ≡ 10 → IsLongestFront Bool (IsStringRest q) bs at false
  at_line_feed inside is_feed =
      rw (add-zero) at (continues 0 false (at_place Bool (IsStringRest q) bs at 0 false inside (subst (λ b. IsLongestFront Bool (IsStringRest q) (b ∷ drop (at + 1) bs) 0 false) (sym is_feed) (string_feed q (drop (at + 1) bs) no_feed))))

  pub at_end : length bs ≤ at → IsLongestFront Bool (IsStringRest q) bs at false
  at_end past =
      rw (add-zero) at (continues 0 false (subst (λ l. IsLongestFront Bool (IsStringRest q) l 0 false) (sym (drop_all at bs past)) (string_end q)))

  pub at_plain : at < length bs → IsPlain q (get_or bs at 0) → Continues Bool (IsStringRest q) (IsStringRest q) bs (at + 1)
  at_plain inside plain =
      Continues-more Bool (IsStringRest q) (IsStringRest q) (IsStringRest q) bs at inside continues (λ n closed. string_plain q (get_or bs at 0) (drop (at + 1) bs) n closed plain)

  pub at_lone_backslash : at < length bs → get_or bs at 0 ≡ 92 → (at + 1 < length bs → get_or bs (at + 1) 0 ≡ 10) → IsLongestFront Bool (IsStringRest q) bs (at + 1) false
  at_lone_backslash inside is_backslash feed =
      let next : 0 < length (drop (at + 1) bs) → get_or (drop (at + 1) bs) 0 0 ≡ 10 =
      λ some. get_or-drop (at + 1) bs 0 0 ∙ ap (λ i. get_or bs i 0) (add-zero (at + 1)) ∙ feed (omega (arith, some, length-drop (at + 1) bs)) in
      continues 1 false (at_place Bool (IsStringRest q) bs at 1 false inside (subst (λ b. IsLongestFront Bool (IsStringRest q) (b ∷ drop (at + 1) bs) 1 false) (sym is_backslash) (string_backslash q (drop (at + 1) bs) no_backslash next)))

  pub at_pair : at + 1 < length bs → get_or bs at 0 ≡ 92 → get_or bs (at + 1) 0 ≢ 10 → Continues Bool (IsStringRest q) (IsStringRest q) bs (at + 2)
  at_pair inside is_backslash no_feed_after n closed ends =
      let sum : at + suc (suc n) ≡ at + 2 + n = omega arith in
      let place : at + 2 ≡ at + 1 + 1 = omega arith in
      let after = subst (λ k. IsLongestFront Bool (IsStringRest q) (drop k bs) n closed) place ends in
      let here : drop (at + 1) bs ≡ get_or bs (at + 1) 0 ∷ drop (at + 1 + 1) bs = rw (add-one (at + 1), drop-cons bs (at + 1) 0 inside) refl in
      let both = string_pair q (get_or bs (at + 1) 0) (drop (at + 1 + 1) bs) n closed no_feed_after after in
      subst (λ k. IsLongestFront Bool (IsStringRest q) bs k closed) sum
      (continues (suc (suc n)) closed (at_place Bool (IsStringRest q) bs at (suc (suc n)) closed (omega arith)
      (subst (λ l. IsLongestFront Bool (IsStringRest q) l (suc (suc n)) closed)
      (λ i. (sym is_backslash) i ∷ (sym here) i) both)))
