-- Lemmas on the parts of statements.
use Rattle.std.proofs.Common.{◌≡◌, ℕ, zero, suc, ◌<◌, ◌≤◌, ◌-◌, Bool, true, false, List, [], ◌∷◌, ◌++◌, length, get_or, take, drop, refl, sym, ap, ◌∙◌, arith, cond, append_assoc, append-nil, Option, Some, None}
use Rattle.proto_tree.specs.declared.lexeme.Lexeme.{Lexeme}
use Rattle.std.specs.Prelude.{not}
use Rattle.std.proofs.lemmas.Bool.{false≢true}
use Rattle.std.proofs.lemmas.List.{take_rest}
use Rattle.proto_tree.specs.declared.node.Span.{Span}
use Rattle.proto_tree.specs.declared.lexeme.Terminal.TheVariants as w
use Rattle.proto_tree.specs.Lexeme.{is, same_terminal}
use Rattle.proto_tree.specs.declared.lexeme.Terminal.{Terminal}
use Rattle.proto_tree.specs.Parts.{Reader, pure, and_then, full, separated, identifier, separated_by, eat, one, run, texts, last_of}

-- a list that is read, behind what was read before it
abbrev pub with_front : {A : Type 0} → List A → Option (List A × List Lexeme) → Option (List A × List Lexeme)
with_front front None = None
with_front front (Some p) = Some (front ++ p.0, p.1)

inside : {B : Type 0} (p q : B) → Some p ≡ Some q → p ≡ q
inside p q e = cc

-- a part that is read, with the tokens behind it
pub pair_is : {A : Type 0} {x y : A} {r s : List Lexeme} → ◌≡◌ {A = Option (A × List Lexeme)} (Some (x, r)) (Some (y, s)) → (x ≡ y) × (r ≡ s)
pair_is {A} {x} {y} {r} {s} e = (ap (λ (q : A × List Lexeme). q.0) (inside (x, r) (y, s) e), ap (λ (q : A × List Lexeme). q.1) (inside (x, r) (y, s) e))

-- ---- items with separators

pub separated_by-more : {A : Type 0} (separator : Terminal) (item : Reader A) (n : ℕ) (ts rest after : List Lexeme) (x : A) (xs : List A) → 0 < n → item ts ≡ Some (x, rest) → eat separator rest ≡ Some (true, after)
    → with_front xs (separated_by separator item n ts) ≡ with_front (xs ++ x ∷ []) (separated_by separator item (n - 1) after)
separated_by-more separator item zero ts rest after x xs h e f = absurd (omega arith)
separated_by-more {A} separator item (suc n) ts rest after x xs h e f =
    let less : suc n - 1 ≡ n = omega arith in
    rw (e, f, less) (joined (separated_by separator item n after))
  where
    joined : (r : Option (List A × List Lexeme)) → with_front xs (and_then r (λ more. pure (x ∷ more))) ≡ with_front (xs ++ x ∷ []) r
    joined None = refl
    joined (Some p) = ap (λ l. Some (l, p.1)) (sym (append_assoc xs (x ∷ []) p.0))

pub separated_by-end : {A : Type 0} (separator : Terminal) (item : Reader A) (n : ℕ) (ts rest after : List Lexeme) (x : A) (xs : List A) → 0 < n → item ts ≡ Some (x, rest) → eat separator rest ≡ Some (false, after)
    → with_front xs (separated_by separator item n ts) ≡ Some (xs ++ x ∷ [], after)
separated_by-end separator item zero ts rest after x xs h e f = absurd (omega arith)
separated_by-end separator item (suc n) ts rest after x xs h e f = rw (e, f) refl

pub separated_by-none : {A : Type 0} (separator : Terminal) (item : Reader A) (n : ℕ) (ts : List Lexeme) (xs : List A) → item ts ≡ None → with_front xs (separated_by separator item n ts) ≡ None
separated_by-none separator item zero ts xs e = refl
separated_by-none separator item (suc n) ts xs e = rw e refl

pub eat-shorter : (separator : Terminal) (ts rest : List Lexeme) → eat separator ts ≡ Some (true, rest) → length rest < length ts
unfolding eat
eat-shorter separator [] rest e = absurd (false≢true (pair_is e).0)
eat-shorter separator (t ∷ ts) rest e = eaten (is separator t) e
  where
    eaten : (b : Bool) → cond {A = Option (Bool × List Lexeme)} b (Some (true, ts)) (Some (false, t ∷ ts)) ≡ Some (true, rest) → length rest < length (t ∷ ts)
    eaten true f = omega (arith, ap length (pair_is f).1)
    eaten false f = absurd (false≢true (pair_is f).0)

pub one-shorter : (fits : Terminal → Bool) (ts rest : List Lexeme) (s : Span) → one fits ts ≡ Some (s, rest) → length ts ≡ suc (length rest)
unfolding one
one-shorter fits [] rest s e = cc
one-shorter fits (t ∷ ts) rest s e = taken (fits t.terminal) e
  where
    taken : (b : Bool) → cond {A = Option (Span × List Lexeme)} b (Some (t.span, ts)) None ≡ Some (s, rest) → length (t ∷ ts) ≡ suc (length rest)
    taken true f = omega (arith, ap length (pair_is f).1)
    taken false f = cc

-- ---- runs

pub run-no : (fits : Terminal → Bool) (ts : List Lexeme) (d : Lexeme) → fits (get_or ts 0 d).terminal ≡ false → run fits ts ≡ ([], ts)
unfolding run
run-no fits [] d e = refl
run-no fits (t ∷ ts) d e = rw e refl

pub run-yes : (fits : Terminal → Bool) (ts : List Lexeme) (d : Lexeme) → 1 ≤ length ts → fits (get_or ts 0 d).terminal ≡ true → run fits ts ≡ ((get_or ts 0 d).span ∷ (run fits (drop 1 ts)).0, (run fits (drop 1 ts)).1)
unfolding run
run-yes fits [] d h e = absurd (omega arith)
run-yes fits (t ∷ ts) d h e = rw e refl

-- ---- the last of several

pub last_of-at : (s : Span) (ts : List Span) (d : Span) → 0 < length ts → last_of s ts ≡ get_or ts (length ts - 1) d
last_of-at s [] d h = absurd (omega arith)
last_of-at s (t ∷ []) d h = refl
last_of-at s (t ∷ u ∷ ts) d h =
    let e : length (t ∷ u ∷ ts) - 1 ≡ suc (length (u ∷ ts) - 1) = omega arith in
    last_of-at t (u ∷ ts) d (omega arith) ∙ ap (λ n. get_or (t ∷ u ∷ ts) n d) (sym e)

pub full-is : (ts : List Lexeme) → full ts ≡ with_front [] (separated_by w.Dot identifier (length ts - 0) ts)
unfolding separated
full-is ts =
    let all : length ts - 0 ≡ length ts = omega arith in
    rw all (front (separated_by w.Dot identifier (length ts) ts))
  where
    front : (r : Option (List Span × List Lexeme)) → r ≡ with_front [] r
    front None = refl
    front (Some p) = refl

not_true : (b : Bool) → not b ≡ true → b ≡ false
not_true true e = cc
not_true false e = refl

not_false : (b : Bool) → not b ≡ false → b ≡ true
not_false true e = refl
not_false false e = cc

-- plain strings that are read, behind those that were read before
abbrev pub texts_behind : List Span → List Lexeme → List Span × List Lexeme
texts_behind front ts = (front ++ (texts ts).0, (texts ts).1)

pub texts-none : (front : List Span) (ts : List Lexeme) → length ts < 1 → texts_behind front ts ≡ (front, ts)
unfolding run
texts-none front [] h = ap (λ (l : List Span). (l, [])) (append-nil front)
texts-none front (t ∷ ts) h = absurd (omega arith)

pub texts-no : (front : List Span) (ts : List Lexeme) (d : Lexeme) → not (same_terminal (get_or ts 0 d).terminal w.PlainText) ≡ true → texts_behind front ts ≡ (front, ts)
texts-no front ts d e =
    rw (run-no (λ x. same_terminal x w.PlainText) ts d (not_true _ e)) (ap (λ (l : List Span). (l, ts)) (append-nil front))

pub texts-yes : (front : List Span) (ts : List Lexeme) (d : Lexeme) → 1 ≤ length ts → not (same_terminal (get_or ts 0 d).terminal w.PlainText) ≡ false
    → texts_behind front ts ≡ texts_behind (front ++ (get_or ts 0 d).span ∷ []) (take (length ts - 1) (drop 1 ts))
texts-yes front ts d h e =
    rw (take_rest ts 1, run-yes (λ x. same_terminal x w.PlainText) ts d h (not_false _ e))
    (ap (λ (l : List Span). (l, (texts (drop 1 ts)).1)) (sym (append_assoc front ((get_or ts 0 d).span ∷ []) (texts (drop 1 ts)).0)))

pub separated-is : {A : Type 0} (separator : Terminal) (item : Reader A) (ts : List Lexeme) → separated separator item ts ≡ with_front [] (separated_by separator item (length ts - 0) ts)
unfolding separated
separated-is {A} separator item ts =
    let all : length ts - 0 ≡ length ts = omega arith in
    rw all (front (separated_by separator item (length ts) ts))
  where
    front : (r : Option (List A × List Lexeme)) → r ≡ with_front [] r
    front None = refl
    front (Some p) = refl

-- a part that is no part of nothing takes a token
pub nonempty : {A : Type 0} (item : Reader A) (ts : List Lexeme) (p : A × List Lexeme) → item [] ≡ None → item ts ≡ Some p → 0 < length ts
nonempty item [] p none some = absurd (never (sym some ∙ none))
  where
    never : Some p ≡ None → ⊥
    never e = cc
nonempty item (t ∷ ts) p none some = omega arith
