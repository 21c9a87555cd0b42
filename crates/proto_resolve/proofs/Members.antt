-- What is in lists.
use Rattle.std.proofs.Common.{◌≡◌, ◌∙◌, sym, subst, inl, inr, ℕ, zero, suc, ◌+◌, ◌<◌, ◌≤◌, List, [], ◌∷◌, ◌++◌, Bool, true, false, ◌||◌, Some, None, find, filter, refl, arith}
use Rattle.std.specs.Prelude.{All, ◌⊎◌}
use Rattle.std.specs.List.{AllPairs, list_any, range_with_len}
use Rattle.std.proofs.lemmas.Bool.{cases_Bool, cases_eq}
use Rattle.std.proofs.lemmas.List.Elements.{All-head, All-tail}

module _ {X : Type 0} where
  abbrev pub In : X → List X → Type 0
  In x [] = ⊥
  In x (y ∷ ys) = (y ≡ x) ⊎ In x ys

  pub in_left : (x : X) (xs ys : List X) → In x xs → In x (xs ++ ys)
  in_left x [] ys there = elim there [ ]
  in_left x (y ∷ xs) ys (inl same) = inl same
  in_left x (y ∷ xs) ys (inr later) = inr (in_left x xs ys later)

  pub in_right : (x : X) (xs ys : List X) → In x ys → In x (xs ++ ys)
  in_right x [] ys there = there
  in_right x (y ∷ xs) ys there = inr (in_right x xs ys there)

  pub in_filter : (p : X → Bool) (x : X) (xs : List X) → p x ≡ true → In x xs → In x (filter p xs)
  in_filter p x [] e there = elim there [ ]
  in_filter p x (y ∷ xs) e (inl same) = let passes : p y ≡ true = rw same e in rw passes (inl same)
  in_filter p x (y ∷ xs) e (inr later) = elim (cases_Bool (p y)) [
    | inl passes ↦ rw passes (inr (in_filter p x xs e later))
    | inr fails ↦ rw fails (in_filter p x xs e later)
  ]

  add : (x y : X) (ys : List X) (p : X → Bool) → In x ys × (p x ≡ true) → In x (y ∷ ys) × (p x ≡ true)
  add x y ys p there = (inr there.0, there.1)

  at_head : (p : X → Bool) (x y : X) (ys xs : List X) → p y ≡ true → (In x ys → In x xs × (p x ≡ true)) → In x (y ∷ ys) → In x (y ∷ xs) × (p x ≡ true)
  at_head p x y ys xs passes rest (inl same) = (inl same, rw (← same) passes)
  at_head p x y ys xs passes rest (inr later) = add x y xs p (rest later)

  pub from_filter : (p : X → Bool) (x : X) (xs : List X) → In x (filter p xs) → In x xs × (p x ≡ true)
  from_filter p x [] there = elim there [ ]
  from_filter p x (y ∷ xs) there = elim (cases_Bool (p y)) [
    | inl passes ↦ at_head p x y (filter p xs) xs passes (from_filter p x xs) (rw passes at there)
    | inr fails ↦ add x y xs p (from_filter p x xs (rw fails at there))
  ]

  pub all_in : (P : X → Type 0) (xs : List X) (x : X) → All P xs → In x xs → P x
  all_in P [] x all there = elim there [ ]
  all_in P (y ∷ xs) x all (inl same) = subst P same (All-head P y xs all)
  all_in P (y ∷ xs) x all (inr later) = all_in P xs x (All-tail P y xs all) later

  -- what is found in a list whose elements are in an order
  module _ (R : X → X → Type 0) (p : X → Bool) where
    behind : (x : X) (xs : List X) → AllPairs R (x ∷ xs) → All (R x) xs
    behind x xs up k d lt = up 0 (suc k) d (omega arith) (omega (arith, lt))

    after : (x : X) (xs : List X) → AllPairs R (x ∷ xs) → AllPairs R xs
    after x xs up i j d lt within = up (suc i) (suc j) d (omega (arith, lt)) (omega (arith, within))

    pub first_in : (xs : List X) (x : X) → AllPairs R xs → find p xs ≡ Some x → In x xs × (p x ≡ true) × ((y : X) → In y xs → p y ≡ true → (y ≡ x) ⊎ R x y)
    first_in [] x up e = absurd (cc (e))
    first_in (z ∷ xs) x up e = elim (cases_Bool (p z)) [
      | inl passes ↦
          let some : Some z ≡ Some x = rw passes at e in
          let same : z ≡ x = cc (some) in
          (inl same, rw (← same) passes, λ y there passes'. at_first same y there)
      | inr fails ↦
          let rest = first_in xs x (after z xs up) (rw fails at e) in
          (inr rest.0, rest.1, λ y there passes'. at_tail fails rest.2 y there passes')
    ]
      where
        at_first : z ≡ x → (y : X) → In y (z ∷ xs) → (y ≡ x) ⊎ R x y
        at_first same y (inl same') = inl (sym same' ∙ same)
        at_first same y (inr later) = inr (subst (λ w. R w y) same (all_in (R z) xs y (behind z xs up) later))

        at_tail : p z ≡ false → ((y : X) → In y xs → p y ≡ true → (y ≡ x) ⊎ R x y) → (y : X) → In y (z ∷ xs) → p y ≡ true → (y ≡ x) ⊎ R x y
        at_tail fails rest y (inl same) passes' = absurd (cc (fails, same, passes'))
        at_tail fails rest y (inr later) passes' = rest y later passes'

  pub none_in : (p : X → Bool) (xs : List X) (x : X) → find p xs ≡ None → In x xs → p x ≡ true → ⊥
  none_in p [] x e there passes = elim there [ ]
  none_in p (y ∷ xs) x e (inl same) passes = let here : p y ≡ true = rw same passes in let some : Some y ≡ None = rw here at e in absurd (cc (some))
  none_in p (y ∷ xs) x e (inr later) passes = elim (cases_Bool (p y)) [
    | inl here ↦ let some : Some y ≡ None = rw here at e in absurd (cc (some))
    | inr fails ↦ none_in p xs x (rw fails at e) later passes
  ]

-- tests of the numbers of a range that pass another test
module _ (p q : ℕ → Bool) where
  pub from_any : (a n : ℕ) → list_any q (filter p (range_with_len a n)) ≡ true → (g : ℕ) × (p g ≡ true) × (q g ≡ true)
  from_any a zero e = absurd (cc (e))
  from_any a (suc n) e = elim (cases_Bool (p a)) [
    | inl passes ↦ elim (cases_Bool (q a)) [
      | inl passes' ↦ (a, passes, passes')
      | inr fails' ↦ from_any (a + 1) n (rw (passes, fails') at e)
    ]
    | inr fails ↦ from_any (a + 1) n (rw fails at e)
  ]

  pub to_any : (a n g : ℕ) → a ≤ g → g < a + n → p g ≡ true → q g ≡ true → list_any q (filter p (range_with_len a n)) ≡ true
  to_any a zero g le lt passes passes' = absurd (omega (arith, le, lt))
  to_any a (suc n) g le lt passes passes' = elim (cases_eq a g) [
    | inl same ↦ rw (same, passes, passes') refl
    | inr other ↦
        let later : list_any q (filter p (range_with_len (a + 1) n)) ≡ true = to_any (a + 1) n g (omega (arith, le, other)) (omega (arith, lt)) passes passes' in
        elim (cases_Bool (p a)) [
          | inl there ↦ rw (there, later) (any_true (q a))
          | inr fails ↦ rw fails later
        ]
  ]
    where
      any_true : (b : Bool) → (b || true) ≡ true
      any_true true = refl
      any_true false = refl
