-- Lemmas on the braces of a text and what they let the reader skip.
use Rattle.std.proofs.Common.{◌≡◌, ◌⊎◌, inl, inr, subst, ℕ, zero, suc, ◌+◌, ◌<◌, ◌≤◌, ◌-◌, true, false, List, [], ◌∷◌, ◌++◌, length, get_or, take, drop, refl, sym, ap, ◌∙◌, arith, cond, length-drop, length-take}
use Rattle.std.specs.Prelude.{IsTrue, count_by, min}
use denote.Enum.Bare.{same_true}
use Rattle.proto_tree.specs.contracts.lexeme.Terminal.{the_type}
use Rattle.std.proofs.lemmas.Bool.{false≢true}
use Rattle.proto_tree.specs.Cut.{begins}
use Rattle.std.proofs.lemmas.List.{drop-drop, take-take, drop_more, drop_all, take_all}
use Rattle.std.proofs.lemmas.List.Sums.{sum_by-append}
use Rattle.proto_tree.specs.declared.lexeme.Terminal.TheVariants as w
use Rattle.proto_tree.specs.declared.lexeme.Lexeme.{Lexeme}
use Rattle.proto_tree.specs.declared.lexeme.Terminal.{Terminal}
use Rattle.proto_tree.specs.Lexeme.{is}
use Rattle.proto_syntax.specs.Skips.{opened, closed, IsSkip}
use Rattle.proto_syntax.specs.Skips as spec

pub take-add : (i m : ℕ) (ts : List Lexeme) → take (i + m) ts ≡ take i ts ++ take m (drop i ts)
take-add zero m ts = let e : 0 + m ≡ m = omega arith in rw e refl
take-add (suc i) m [] = let e : suc i + m ≡ suc (i + m) = omega arith in rw e (nil m)
  where
    nil : (n : ℕ) → ◌≡◌ {A = List Lexeme} [] (take n [])
    nil zero = refl
    nil (suc n) = refl
take-add (suc i) m (t ∷ ts) = let e : suc i + m ≡ suc (i + m) = omega arith in rw e (ap (λ l. t ∷ l) (take-add i m ts))

-- what the first i tokens count, and the m after them
pub count-add : (terminal : Terminal) (i m : ℕ) (ts : List Lexeme) → count_by (is terminal) (take (i + m) ts) ≡ count_by (is terminal) (take i ts) + count_by (is terminal) (take m (drop i ts))
count-add terminal i m ts = ap (count_by (is terminal)) (take-add i m ts) ∙ sum_by-append (λ t. cond (is terminal t) 1 0) (take i ts) (take m (drop i ts))

-- ---- the skips of a part of the tokens

-- the same token by token
abbrev pub AreSkips : List Lexeme → List ℕ → Type 0
AreSkips ts [] = Unit {0}
AreSkips [] (n ∷ ns) = ⊥
AreSkips (t ∷ ts) (n ∷ ns) = (IsTrue (is w.OpenBrace t) → IsSkip (t ∷ ts) n) × AreSkips ts ns

pub each : (ts : List Lexeme) (ns : List ℕ) → spec.AreSkips ts ns → AreSkips ts ns
each ts [] h = tt
each [] (n ∷ ns) h = absurd (omega (arith, h.0))
each (t ∷ ts) (n ∷ ns) h = (h.1 0 (omega arith), each ts ns (omega (arith, h.0), λ k lt o. h.1 (suc k) (omega arith) o))

pub all : (ts : List Lexeme) (ns : List ℕ) → AreSkips ts ns → spec.AreSkips ts ns
all ts [] h = (omega arith, λ k lt o. absurd (omega arith))
all [] (n ∷ ns) h = absurd h
all (t ∷ ts) (n ∷ ns) h =
    let more = all ts ns h.1 in
    (omega (arith, more.0), place more.1)
  where
    place : ((k : ℕ) → k < length ns → IsTrue (begins w.OpenBrace (drop k ts)) → IsSkip (drop k ts) (get_or ns k 0))
        → (k : ℕ) → k < length (n ∷ ns) → IsTrue (begins w.OpenBrace (drop k (t ∷ ts))) → IsSkip (drop k (t ∷ ts)) (get_or (n ∷ ns) k 0)
    place more zero lt o = h.0 o
    place more (suc k) lt o = more k (omega arith) o

pub skips-drop : (k : ℕ) (ts : List Lexeme) (ns : List ℕ) → AreSkips ts ns → AreSkips (drop k ts) (drop k ns)
skips-drop zero ts ns h = h
skips-drop (suc k) ts [] h = tt
skips-drop (suc k) [] (n ∷ ns) h = absurd h
skips-drop (suc k) (t ∷ ts) (n ∷ ns) h = skips-drop k ts ns h.1

skip-take : (k : ℕ) (ts : List Lexeme) (n : ℕ) → IsSkip ts n → IsSkip (take k ts) n
skip-take k ts n h = record {
  some = h.some;
  inside = λ m some few within.
      let len : length (take k ts) ≤ length ts = omega (arith, length-take k ts) in
      let short : m ≤ k = omega (arith, length-take k ts) in
      rw (take-take m k ts short) (h.inside m some few (omega arith));
  one_deep = λ less.
      let short : n ≤ k = omega (arith, length-take k ts) in
      rw (take-take n k ts short) (h.one_deep (omega (arith, length-take k ts)));
}

pub skips-take : (k : ℕ) (ts : List Lexeme) (ns : List ℕ) → AreSkips ts ns → AreSkips (take k ts) (take k ns)
skips-take zero ts ns h = tt
skips-take (suc k) ts [] h = tt
skips-take (suc k) [] (n ∷ ns) h = absurd h
skips-take (suc k) (t ∷ ts) (n ∷ ns) h = (λ e. skip-take (suc k) (t ∷ ts) n (h.0 e), skips-take k ts ns h.1)

below : (a b : ℕ) → (a ≤ b) ⊎ (b < a)
below zero b = inl (omega arith)
below (suc a) zero = inr (omega arith)
below (suc a) (suc b) = elim (below a b) [ inl h ↦ inl (omega arith) | inr h ↦ inr (omega arith) ]

-- a cut behind all that is known is one behind the last of it
pub take-known : (k m : ℕ) (ns : List ℕ) → m ≡ min k (length ns) → take m ns ≡ take k ns
take-known k m ns e = elim (below k (length ns)) [
  | inl le ↦ let same : m ≡ k = omega arith in rw same refl
  | inr lt ↦ let same : m ≡ length ns = omega arith in rw same (take_all (length ns) ns (omega arith) ∙ sym (take_all k ns (omega arith)))
]

pub drop-known : (k m : ℕ) (ns : List ℕ) → m ≡ min k (length ns) → drop m ns ≡ drop k ns
drop-known k m ns e = elim (below k (length ns)) [
  | inl le ↦ let same : m ≡ k = omega arith in rw same refl
  | inr lt ↦ let same : m ≡ length ns = omega arith in rw same (drop_all (length ns) ns (omega arith) ∙ sym (drop_all k ns (omega arith)))
]

-- a token that is no opening brace takes any number
pub skips-plain : (ts : List Lexeme) (ns : List ℕ) (at : ℕ) (d : Lexeme) → 0 < at → at ≤ length ts → length ns ≡ length ts → is w.OpenBrace (get_or ts (at - 1) d) ≡ false → AreSkips (drop at ts) (drop at ns)
    → AreSkips (drop (at - 1) ts) (drop (at - 1) ns)
skips-plain ts ns at d some le same o h =
    let back : at - 1 + 1 ≡ at = omega arith in
    rw (drop_more ts (at - 1) d (omega arith), drop_more ns (at - 1) 0 (omega arith), back) ((λ e. absurd (false≢true (sym o ∙ e))), h)

-- ---- inside a brace

-- no token is both braces
open_or_close : (t : Lexeme) → is w.OpenBrace t ≡ true → is w.CloseBrace t ≡ false
open_or_close t h = let same : t.terminal ≡ w.OpenBrace = same_true the_type (search refl) t.terminal w.OpenBrace h in rw same refl

-- the first n tokens stand inside the brace that begins them, so many braces deep
pub record IsInside (ts : List Lexeme) (n depth : ℕ) : Type 0 where
  pub some : 0 < n
  pub within : n ≤ length ts
  pub deep : 0 < depth
  pub shallow : depth ≤ n
  pub counts : opened (take n ts) ≡ closed (take n ts) + depth
  pub inside : (m : ℕ) → 0 < m → m ≤ n → closed (take m ts) < opened (take m ts)

-- what follows stays inside as long as it closes no more than it opens and the depth has
pub on : (ts : List Lexeme) (n depth k : ℕ) → IsInside ts n depth → ((j : ℕ) → 0 < j → j ≤ k → closed (take j (drop n ts)) < opened (take j (drop n ts)) + depth) → (m : ℕ) → 0 < m → m ≤ n + k → closed (take m ts) < opened (take m ts)
on ts n depth k h f m some few = elim (below m n) [
  | inl le ↦ h.inside m some le
  | inr lt ↦
      let e : n + (m - n) ≡ m = omega arith in
      let step : closed (take (m - n) (drop n ts)) < opened (take (m - n) (drop n ts)) + depth = f (m - n) (omega arith) (omega arith) in
      let there : closed (take (n + (m - n)) ts) < opened (take (n + (m - n)) ts) = omega (arith, h.counts, step, count-add w.CloseBrace n (m - n) ts, count-add w.OpenBrace n (m - n) ts) in
      subst (λ x. closed (take x ts) < opened (take x ts)) e there
]

-- a skip goes one deeper
pub inside-skip : (ts : List Lexeme) (n depth k : ℕ) → IsInside ts n depth → IsSkip (drop n ts) k → k < length ts - n → IsInside ts (n + k) (depth + 1)
inside-skip ts n depth k h s lt =
    let len : length (drop n ts) ≡ length ts - n = length-drop n ts in
    let more : opened (take k (drop n ts)) ≡ closed (take k (drop n ts)) + 1 = s.one_deep (omega arith) in
    record {
      some = omega (arith, h.some);
      within = omega arith;
      deep = omega arith;
      shallow = omega (arith, h.shallow, s.some);
      counts = omega (arith, h.counts, more, count-add w.CloseBrace n k ts, count-add w.OpenBrace n k ts);
      inside = on ts n depth k h (λ j some few. omega (arith, s.inside j some few (omega arith)));
    }

-- a skip to the end leaves everything inside
pub inside-all : (ts : List Lexeme) (n depth k : ℕ) → IsInside ts n depth → IsSkip (drop n ts) k → length ts - n ≤ k → IsSkip ts (length ts)
inside-all ts n depth k h s le =
    let len : length (drop n ts) ≡ length ts - n = length-drop n ts in
    record {
      some = omega (arith, h.some, h.within);
      inside = λ m some few within. on ts n depth (length ts - n) h (λ j some few. omega (arith, s.inside j some (omega arith) (omega arith))) m some (omega (arith, h.within));
      one_deep = λ lt. absurd (omega arith);
    }

-- one token on
inside-one : (ts : List Lexeme) (n depth next : ℕ) (d : Lexeme) → IsInside ts n depth → n < length ts → 0 < next → next ≤ depth + 1
    → depth + opened (get_or ts n d ∷ []) ≡ next + closed (get_or ts n d ∷ []) → IsInside ts (n + 1) next
inside-one ts n depth next d h lt deep few e =
    let front : take 1 (drop n ts) ≡ get_or ts n d ∷ [] = ap (take 1) (drop_more ts n d lt) in
    let o : opened (take 1 (drop n ts)) ≡ opened (get_or ts n d ∷ []) = ap opened front in
    let c : closed (take 1 (drop n ts)) ≡ closed (get_or ts n d ∷ []) = ap closed front in
    let counts : opened (take (n + 1) ts) ≡ closed (take (n + 1) ts) + next = omega (arith, h.counts, o, c, e, count-add w.CloseBrace n 1 ts, count-add w.OpenBrace n 1 ts) in
    record {
      some = omega arith;
      within = omega arith;
      deep = deep;
      shallow = omega (arith, h.shallow);
      counts = counts;
      inside = on ts n depth 1 h (λ j some few. let one : j ≡ 1 = omega arith in rw one (omega (arith, o, c, e)));
    }

pub inside-plain : (ts : List Lexeme) (n depth : ℕ) (d : Lexeme) → IsInside ts n depth → n < length ts → is w.OpenBrace (get_or ts n d) ≡ false → is w.CloseBrace (get_or ts n d) ≡ false → IsInside ts (n + 1) depth
inside-plain ts n depth d h lt o c = inside-one ts n depth depth d h lt h.deep (omega arith) (rw (o, c) refl)

pub inside-close : (ts : List Lexeme) (n depth : ℕ) (d : Lexeme) → IsInside ts n depth → n < length ts → is w.OpenBrace (get_or ts n d) ≡ false → is w.CloseBrace (get_or ts n d) ≡ true → 1 < depth → IsInside ts (n + 1) (depth - 1)
inside-close ts n depth d h lt o c some = inside-one ts n depth (depth - 1) d h lt (omega arith) (omega arith) (rw (o, c) (omega arith))

pub inside-start : (ts : List Lexeme) → IsTrue (begins w.OpenBrace ts) → IsInside ts 1 1
inside-start [] h = absurd (false≢true h)
inside-start (t ∷ ts) h =
    let not_close : is w.CloseBrace t ≡ false = open_or_close t h in
    let front : (m : ℕ) → 0 < m → m ≤ 1 → take m (t ∷ ts) ≡ t ∷ [] = λ m some few. let one : m ≡ 1 = omega arith in rw one refl in
    let o : opened (t ∷ []) ≡ 1 = rw h refl in
    let c : closed (t ∷ []) ≡ 0 = rw not_close refl in
    record {
      some = omega arith;
      within = omega arith;
      deep = omega arith;
      shallow = omega arith;
      counts = omega (arith, o, c);
      inside = λ m some few. rw (front m some few) (omega (arith, o, c));
    }

pub inside-end : (ts : List Lexeme) (n depth : ℕ) → IsInside ts n depth → (n < length ts → depth ≡ 1) → IsSkip ts n
inside-end ts n depth h one = record {
  some = h.some;
  inside = λ m some few within. h.inside m some few;
  one_deep = λ lt. h.counts ∙ ap (λ k. closed (take n ts) + k) (one lt);
}

-- ---- the skip of the brace at a place

-- an opening brace may itself be skipped
pub skip-one : (ts : List Lexeme) → IsTrue (begins w.OpenBrace ts) → IsSkip ts 1
skip-one ts h = inside-end ts 1 1 (inside-start ts h) (λ lt. refl)

pub begins-at : (ts : List Lexeme) (i : ℕ) (d : Lexeme) → i < length ts → is w.OpenBrace (get_or ts i d) ≡ true → IsTrue (begins w.OpenBrace (drop i ts))
begins-at ts i d lt o = rw (drop_more ts i d lt) o

-- what is known there, or else the brace alone
pub skip-known : (ts : List Lexeme) (ns : List ℕ) (i : ℕ) → AreSkips ts ns → IsTrue (begins w.OpenBrace (drop i ts)) → IsSkip (drop i ts) (get_or ns i 1)
skip-known ts [] i h o = skip-one (drop i ts) o
skip-known [] (n ∷ ns) i h o = absurd h
skip-known (t ∷ ts) (n ∷ ns) zero h o = h.0 o
skip-known (t ∷ ts) (n ∷ ns) (suc i) h o = skip-known ts ns i h.1 o

-- the same where the skips are those of all tokens but the first
pub skip-behind : (ts : List Lexeme) (ns : List ℕ) (i : ℕ) (d : Lexeme) → AreSkips (drop 1 ts) ns → 0 < i → i < length ts → is w.OpenBrace (get_or ts i d) ≡ true → IsSkip (drop i ts) (get_or ns (i - 1) 1)
skip-behind ts ns i d h some lt o =
    let back : 1 + (i - 1) ≡ i = omega arith in
    let same : drop (i - 1) (drop 1 ts) ≡ drop i ts = drop-drop (i - 1) 1 ts ∙ ap (λ k. drop k ts) back in
    subst (λ l. IsSkip l (get_or ns (i - 1) 1)) same (skip-known (drop 1 ts) ns (i - 1) h (subst (λ l. IsTrue (begins w.OpenBrace l)) (sym same) (begins-at ts i d lt o)))
