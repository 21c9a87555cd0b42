-- What `find` gives is the first that passes.
use Rattle.std.proofs.Common.{◌≡◌, inl, inr, ℕ, zero, suc, ◌<◌, List, [], ◌∷◌, Bool, true, false, length, get_or, Some, None, find, ap, refl, ◌∙◌, arith}
use Rattle.std.proofs.lemmas.Bool.{cases_Bool}
use Rattle.std.proofs.lemmas.List.Elements.{All-cons, All-head, All-nil, All-tail}
use Rattle.std.specs.Prelude.{All}
use Rattle.proto_resolve.specs.Laws.{ScopeLaw}
use Rattle.proto_resolve.specs.Names.{settles_at, IsInnermost}

module _ (p : List ℕ → Bool) where
  abbrev First : List (List ℕ) → List ℕ → Type 0
  First xs s = IsInnermost (λ x. p x ≡ true) xs s

  later : (x : List ℕ) (xs : List (List ℕ)) (s : List ℕ) → p x ≡ false → First xs s → First (x ∷ xs) s
  later x xs s no_match rest = record { place = suc rest.place; within = omega (arith, rest.within); here = rest.here; holds = rest.holds; no_inner = no_inner }
    where
      no_inner : (k : ℕ) → k < suc rest.place → p (get_or (x ∷ xs) k []) ≡ true → ⊥
      no_inner zero lt e = absurd (cc (e, no_match))
      no_inner (suc k) lt e = rest.no_inner k (omega arith) e

  pub first_is : (xs : List (List ℕ)) (s : List ℕ) → find p xs ≡ Some s → First xs s
  first_is [] s e = absurd (cc (e))
  first_is (x ∷ xs) s e = elim (cases_Bool (p x)) [
    | inl passes ↦ let some : Some x ≡ Some s = rw passes at e in let same : x ≡ s = cc (some) in
        record { place = 0; within = omega arith; here = same; holds = rw (← same) passes; no_inner = λ k lt bad. absurd (omega arith) }
    | inr fails ↦ later x xs s fails (first_is xs s (rw fails at e))
  ]

  first_at : (xs : List (List ℕ)) (k : ℕ) → k < length xs → p (get_or xs k []) ≡ true → ((j : ℕ) → j < k → p (get_or xs j []) ≡ true → ⊥) → find p xs ≡ Some (get_or xs k [])
  first_at [] k lt holds no_inner = absurd (omega (arith, lt))
  first_at (x ∷ xs) zero lt holds no_inner = rw holds refl
  first_at (x ∷ xs) (suc k) lt holds no_inner = elim (cases_Bool (p x)) [
    | inl passes ↦ absurd (no_inner 0 (omega arith) passes)
    | inr fails ↦ rw fails (first_at xs k (omega (arith, lt)) holds (λ j below e. no_inner (suc j) (omega (arith, below)) e))
  ]

  pub is_first : (xs : List (List ℕ)) (s : List ℕ) → First xs s → find p xs ≡ Some s
  is_first xs s first = first_at xs first.place first.within (rw first.here first.holds) first.no_inner ∙ ap (λ (x : List ℕ). Some x) first.here

  pub none_passes : (xs : List (List ℕ)) → find p xs ≡ None → All (λ x. p x ≡ false) xs
  none_passes [] e = All-nil (λ x. p x ≡ false)
  none_passes (x ∷ xs) e = elim (cases_Bool (p x)) [
    | inl passes ↦ absurd (cc (e, passes))
    | inr fails ↦ All-cons (λ x. p x ≡ false) x xs fails (none_passes xs (rw fails at e))
  ]

  pub nothing_found : (xs : List (List ℕ)) → All (λ x. p x ≡ false) xs → find p xs ≡ None
  nothing_found [] all = refl
  nothing_found (x ∷ xs) all = rw (All-head (λ x. p x ≡ false) x xs all) (nothing_found xs (All-tail (λ x. p x ≡ false) x xs all))

pub scope_law : ScopeLaw
scope_law files f view site relative = (
  λ s. (λ e. first_is (settles_at files f view site) site.scopes s (rw relative at e), λ first. rw relative (is_first (settles_at files f view site) site.scopes s first)),
  (λ e. none_passes (settles_at files f view site) site.scopes (rw relative at e), λ none. rw relative (nothing_found (settles_at files f view site) site.scopes none)),
)
