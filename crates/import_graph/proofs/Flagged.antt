-- Files by their flags.
use Rattle.std.proofs.Common.{◌≡◌, ◌↔◌, inl, inr, ℕ, zero, suc, ◌+◌, ◌<◌, List, [], ◌∷◌, ◌++◌, Bool, true, false, length, get_or, filter, refl, ap, ◌∙◌, arith, add-one, append-nil}
use Rattle.std.specs.Prelude.{Contains}
use Rattle.std.specs.List.{range_with_len}
use Rattle.std.specs.List.Sorted.{IsStrictlyIncreasing}
use Rattle.std.proofs.lemmas.Bool.{cases_lt}
use Rattle.std.proofs.lemmas.List.{get_or_past}
use Rattle.std.proofs.lemmas.List.Elements.{filter-append}
use Rattle.std.proofs.lemmas.List.Kept.{IsStrictlyIncreasing-filter}
use Rattle.import_graph.specs.FileSearches.{flagged}
use Rattle.import_graph.proofs.ImportEdges.{filter_from, filter_to}
use Rattle.import_graph.proofs.OneView.{rising, in_range}

-- one more number
range_more : (a n j : ℕ) → a + n ≡ j → range_with_len a (suc n) ≡ range_with_len a n ++ j ∷ []
range_more a zero j e = let same : a ≡ j = omega (arith, e) in ap (λ (x : ℕ). x ∷ []) same
range_more a (suc n) j e = ap (λ (l : List ℕ). a ∷ l) (range_more (a + 1) n j (omega (arith, e)))

-- what passes among one more number
module _ (p : ℕ → Bool) where
  more : (k : ℕ) → filter p (range_with_len 0 (k + 1)) ≡ filter p (range_with_len 0 k) ++ filter p (k ∷ [])
  more k = ap (λ (n : ℕ). filter p (range_with_len 0 n)) (add-one k) ∙ (ap (filter p) (range_more 0 k k (omega arith)) ∙ filter-append p (range_with_len 0 k) (k ∷ []))

  pub passes_too : (k : ℕ) → p k ≡ true → filter p (range_with_len 0 (k + 1)) ≡ filter p (range_with_len 0 k) ++ k ∷ []
  passes_too k is =
      let one : filter p (k ∷ []) ≡ k ∷ [] = rw is refl in
      more k ∙ ap (λ (xs : List ℕ). filter p (range_with_len 0 k) ++ xs) one

  pub does_not_pass : (k : ℕ) → p k ≡ false → filter p (range_with_len 0 (k + 1)) ≡ filter p (range_with_len 0 k)
  does_not_pass k is =
      let none : filter p (k ∷ []) ≡ [] = rw is refl in
      more k ∙ (ap (λ (xs : List ℕ). filter p (range_with_len 0 k) ++ xs) none ∙ append-nil (filter p (range_with_len 0 k)))

module _ (flags : List Bool) where
  abbrev is_flagged : ℕ → Bool
  is_flagged g = get_or flags g false

  pub flagged_rises : IsStrictlyIncreasing (flagged flags)
  flagged_rises = IsStrictlyIncreasing-filter is_flagged (range_with_len 0 (length flags)) (rising (length flags))

  pub flagged_has : (g : ℕ) → Contains (flagged flags) g ↔ (get_or flags g false ≡ true)
  flagged_has g = (
    λ has. (filter_from is_flagged (range_with_len 0 (length flags)) g has).1,
    λ is. filter_to is_flagged (range_with_len 0 (length flags)) g (in_range (length flags) g (there g is)) is,
  )
    where
      there : (g : ℕ) → get_or flags g false ≡ true → g < length flags
      there g is = elim (cases_lt g (length flags)) [
        | inl lt ↦ lt
        | inr past ↦ let none : get_or flags g false ≡ false = get_or_past flags g false past in absurd (cc (none, is))
      ]
