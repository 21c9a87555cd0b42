-- Lists that are alike where a test passes.
use Rattle.std.proofs.Common.{◌≡◌, ◌∙◌, sym, ap, inl, inr, List, [], ◌∷◌, Bool, true, false, find, filter, refl}
use Rattle.std.specs.Prelude.{All}
use Rattle.std.specs.List.{list_any}
use Rattle.std.proofs.lemmas.Bool.{cases_Bool}
use Rattle.std.proofs.lemmas.List.Elements.{All-head, All-tail}
use Rattle.std.proofs.lemmas.Map.Views.{any-filter_same}

module _ {X : Type 0} where
  fails_too : (p q : X → Bool) (x : X) → (q x ≡ true → p x ≡ true) → p x ≡ false → q x ≡ false
  fails_too p q x more fails = elim (cases_Bool (q x)) [
    | inl passes ↦ absurd (cc (fails, more passes))
    | inr fails' ↦ fails'
  ]

  -- what passes one test is found among what passes a weaker one
  find_kept : (p q : X → Bool) → ((x : X) → q x ≡ true → p x ≡ true) → (xs : List X) → find q (filter p xs) ≡ find q xs
  find_kept p q more [] = refl
  find_kept p q more (x ∷ xs) = elim (cases_Bool (p x)) [
    | inl passes ↦ rw (passes, find_kept p q more xs) refl
    | inr fails ↦ rw (fails, fails_too p q x (more x) fails) (find_kept p q more xs)
  ]

  -- lists with the same elements that pass a test agree on what passes a stronger one
  module _ (p : X → Bool) (xs ys : List X) (same : filter p xs ≡ filter p ys) (q : X → Bool) (more : (x : X) → q x ≡ true → p x ≡ true) where
    pub find_alike : find q xs ≡ find q ys
    find_alike = sym (find_kept p q more xs) ∙ ap (λ (zs : List X). find q zs) same ∙ find_kept p q more ys

    pub any_alike : list_any q xs ≡ list_any q ys
    any_alike = sym (any-filter_same q p true more xs) ∙ ap (λ (zs : List X). list_any q zs) same ∙ any-filter_same q p true more ys

  pub filter_swap : (p q : X → Bool) (xs : List X) → filter p (filter q xs) ≡ filter q (filter p xs)
  filter_swap p q [] = refl
  filter_swap p q (x ∷ xs) = elim (cases_Bool (p x)) [
    | inl passes ↦ elim (cases_Bool (q x)) [
      | inl passes' ↦ rw (passes, passes', passes, filter_swap p q xs) refl
      | inr fails' ↦ rw (passes, fails') (filter_swap p q xs)
    ]
    | inr fails ↦ elim (cases_Bool (q x)) [
      | inl passes' ↦ rw (fails, passes', fails) (filter_swap p q xs)
      | inr fails' ↦ rw (fails, fails') (filter_swap p q xs)
    ]
  ]

  -- tests that agree where another one passes
  pub filter_kept : (p q r : X → Bool) → ((x : X) → p x ≡ true → q x ≡ r x) → (xs : List X) → filter q (filter p xs) ≡ filter r (filter p xs)
  filter_kept p q r agree [] = refl
  filter_kept p q r agree (x ∷ xs) = elim (cases_Bool (p x)) [
    | inl passes ↦ rw (passes, agree x passes, filter_kept p q r agree xs) refl
    | inr fails ↦ rw fails (filter_kept p q r agree xs)
  ]

  pub any_agree : (p q : X → Bool) (xs : List X) → All (λ x. p x ≡ q x) xs → list_any p xs ≡ list_any q xs
  any_agree p q [] all = refl
  any_agree p q (x ∷ xs) all = rw (All-head (λ x. p x ≡ q x) x xs all, any_agree p q xs (All-tail (λ x. p x ≡ q x) x xs all)) refl
