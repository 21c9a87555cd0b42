-- A binary search in numbers that rise.
use Rattle.std.proofs.Common.{◌≡◌, ◌==◌, inl, inr, ℕ, ◌<◌, ◌≤◌, List, true, false, length, get_or, Result, Ok, Err, refl, sym, ◌∙◌, arith}
use Rattle.std.specs.Prelude.{is_ok}
use Rattle.std.specs.List.{list_any}
use Rattle.std.specs.List.Sorted.{IsSearchInRange, IsBinarySearchResult, IsNonDecreasingBy, IsStrictlyIncreasing}
use Rattle.std.specs.Cmp.{nat_cmp_is}
use Rattle.std.specs.Ordering.{nat_cmp, ordering_index}
use Rattle.std.specs.declared.cmp.Ordering.{Ordering}
use Rattle.std.specs.declared.cmp.Ordering.TheVariants.{Less, Equal, Greater}
use Rattle.std.proofs.lemmas.Bool.{cases_eq, cases_lt}
use Rattle.std.proofs.lemmas.Bool.Decides.{nat_tests}
use Rattle.std.proofs.lemmas.List.Elements.{All-from_get_or}
use Rattle.std.proofs.lemmas.List.Folds.{list_any_at, list_any_none}
use Rattle.std.proofs.lemmas.List.Kept.{AllPairs-from_increasing}

pub below : (a x : ℕ) → a < x → nat_cmp a x ≡ Less
below a x lt = sym (nat_cmp_is a x Less lt)

pub same : (x : ℕ) → nat_cmp x x ≡ Equal
same x = sym (nat_cmp_is x x Equal refl)

pub above : (a x : ℕ) → x < a → nat_cmp a x ≡ Greater
above a x lt = sym (nat_cmp_is a x Greater lt)

at_most_two : (o : Ordering) → ordering_index o ≤ 2
at_most_two Less = omega arith
at_most_two Equal = omega arith
at_most_two Greater = omega arith

rises_by : (a b x : ℕ) → a ≤ b → ordering_index (nat_cmp a x) ≤ ordering_index (nat_cmp b x)
rises_by a b x le = elim (cases_lt a x) [
  | inl less ↦ rw (below a x less) (omega arith)
  | inr from ↦ elim (cases_lt x b) [
    | inl more ↦ rw (above b x more) (at_most_two (nat_cmp a x))
    | inr up_to ↦ let e : a ≡ b = omega (arith, le, from, up_to) in rw e (omega arith)
  ]
]

differs : (a x : ℕ) (o : Ordering) → nat_cmp a x ≡ o → (o ≡ Equal → ⊥) → (a == x) ≡ false
differs a x o e other = elim (cases_eq a x) [
  | inl equal ↦ absurd (other (sym e ∙ rw equal (same x)))
  | inr no_match ↦ grind (arith, nat_tests)
]

agrees : (a x : ℕ) → nat_cmp a x ≡ Equal → (a == x) ≡ true
agrees a x e = elim (cases_lt a x) [
  | inl less ↦ absurd (cc (e, below a x less))
  | inr from ↦ elim (cases_lt x a) [
    | inl more ↦ absurd (cc (e, above a x more))
    | inr up_to ↦ let equal : a ≡ x = omega (arith, from, up_to) in grind (arith, nat_tests)
  ]
]

module _ (xs : List ℕ) (ascending : IsStrictlyIncreasing xs) (x : ℕ) where
  rises : IsNonDecreasingBy (λ a. ordering_index (nat_cmp a x)) xs
  rises i j d le lt = elim (cases_eq i j) [
    | inl equal ↦ rw equal (omega arith)
    | inr other ↦ let up : get_or xs i d < get_or xs j d = AllPairs-from_increasing xs ascending i j d (omega arith) lt in rises_by (get_or xs i d) (get_or xs j d) x (omega (arith, up))
  ]

  pub searched : (r : Result ℕ ℕ) → IsSearchInRange r (length xs) → IsBinarySearchResult (λ a. nat_cmp a x) xs r → is_ok r ≡ list_any (λ a. a == x) xs
  searched (Ok i) lt equal = sym (list_any_at (λ a. a == x) xs i 0 lt (agrees (get_or xs i 0) x (equal 0)))
  searched (Err i) le parted =
      let parts = parted rises in
      sym (list_any_none (λ a. a == x) xs (All-from_get_or (λ a. (a == x) ≡ false) xs 0 (λ k lt. elim (cases_lt k i) [
        | inl lower ↦ differs (get_or xs k 0) x Less (parts.0 k 0 (omega arith) lower) (λ bad. absurd (cc (bad)))
        | inr higher ↦ differs (get_or xs k 0) x Greater (parts.1 k 0 higher lt) (λ bad. absurd (cc (bad)))
      ])))
