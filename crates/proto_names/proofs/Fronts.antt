-- Which front parts of a scope can be among sorted scopes.
use Rattle.std.proofs.Common.{◌≡◌, ◌∙◌, sym, ap, refl, inl, inr, ◌<◌, ◌≤◌, ◌+◌, ◌-◌, ◌&&◌, ℕ, zero, suc, List, [], ◌∷◌, Bool, true, false, get_or, length, take, bytes_eq, arith}
use Rattle.std.specs.Prelude.{nat_eq, nat_lt}
use Rattle.std.specs.List.{list_any, starts_with}
use Rattle.std.specs.List.Sorted.{IsNonDecreasing, IsPartitionPoint, IsSortedBy}
use Rattle.std.specs.Cmp.Lexicographic.{slice_cmp}
use Rattle.std.specs.Ordering.{is_eq, is_lt, nat_cmp}
use Rattle.std.specs.declared.cmp.Ordering.{Ordering}
use Rattle.std.specs.declared.cmp.Ordering.TheVariants.{Less, Greater}
use Rattle.std.proofs.lemmas.Bool.{cases_Bool, cases_eq, cases_lt}
use Rattle.std.proofs.lemmas.Bool.Decides.{nat_tests}
use Rattle.std.proofs.lemmas.Cmp.{nat_list_cmp_total}
use Rattle.std.proofs.lemmas.List.{get_or-take, length-take-le}
use Rattle.std.proofs.lemmas.List.Elements.{All-from_get_or}
use Rattle.std.proofs.lemmas.List.Folds.{list_any_none}
use Rattle.std.proofs.lemmas.List.Sorted.{ranks_by, sorted_far}
use Rattle.std.proofs.lemmas.Map.Text.{is_eq-slice_cmp}
use Rattle.std.proofs.lemmas.Slice.Eq.{bytes_eq-Decides}
use Rattle.proto_names.proofs.Search.{above, below, same}

-- ---- how far two texts agree

pub too_long : (a b : List ℕ) (l : ℕ) → length a < l → l ≤ length b → starts_with nat_eq a (take l b) ≡ false
too_long a b zero lt le = absurd (omega (arith, lt))
too_long a [] (suc l) lt le = absurd (omega (arith, le))
too_long [] (y ∷ b) (suc l) lt le = refl
too_long (x ∷ a) (y ∷ b) (suc l) lt le = rw (too_long a b l (omega (arith, lt)) (omega (arith, le))) (never (nat_eq y x))
  where
    never : (t : Bool) → (t && false) ≡ false
    never true = refl
    never false = refl

pub differs_at : (a b : List ℕ) (n : ℕ) → n < length a → (get_or a n 0 ≡ get_or b n 0 → ⊥) → (l : ℕ) → n < l → l ≤ length b → starts_with nat_eq a (take l b) ≡ false
differs_at a b n lt other zero below le = absurd (omega (arith, below))
differs_at a [] n lt other (suc l) below le = absurd (omega (arith, le))
differs_at [] (y ∷ b) n lt other (suc l) below le = refl
differs_at (x ∷ a) (y ∷ b) zero lt other (suc l) below le = elim (cases_eq y x) [
  | inl equal ↦ absurd (other (sym equal))
  | inr unlike ↦ grind (arith, nat_tests)
]
differs_at (x ∷ a) (y ∷ b) (suc n) lt other (suc l) below le =
    let rest : starts_with nat_eq a (take l b) ≡ false = differs_at a b n (omega (arith, lt)) other l (omega (arith, below)) (omega (arith, le)) in
    grind (arith, nat_tests)

-- ---- the order of texts

front_no_greater : (s : List ℕ) (l : ℕ) → slice_cmp nat_cmp (take l s) s ≡ Greater → ⊥
front_no_greater [] zero e = absurd (cc (e))
front_no_greater [] (suc l) e = absurd (cc (e))
front_no_greater (y ∷ s) zero e = absurd (cc (e))
front_no_greater (y ∷ s) (suc l) e = front_no_greater s l (rw (same y) at e)

-- a text before another is before each front part that it doesn't begin with
below_front : (c s : List ℕ) (l : ℕ) → slice_cmp nat_cmp c s ≡ Less → starts_with nat_eq c (take l s) ≡ false → slice_cmp nat_cmp c (take l s) ≡ Less
below_front c s zero e other = absurd (cc (other))
below_front c [] (suc l) e other = absurd (cc (other))
below_front [] (y ∷ s) (suc l) e other = refl
below_front (x ∷ c) (y ∷ s) (suc l) e other = elim (cases_eq x y) [
  | inl equal ↦
      let e' : slice_cmp nat_cmp c s ≡ Less = rw (equal, same y) at e in
      let other' : starts_with nat_eq c (take l s) ≡ false = grind (arith, nat_tests) in
      rw (equal, same y) (below_front c s l e' other')
  | inr unlike ↦ elim (cases_lt x y) [
    | inl less ↦ rw (below x y less) refl
    | inr from ↦ absurd (cc (rw (above x y (omega (arith, from, unlike))) at e))
  ]
]

-- ---- sorted scopes, apart at a place

module _ {X : Type 0} (f : X → List ℕ) (xs : List X) (s : List ℕ) (sorted : IsSortedBy (λ x y. is_lt (slice_cmp nat_cmp (f x) (f y))) xs)
    (place : ℕ) (parts : IsPartitionPoint (λ y. slice_cmp nat_cmp (f y) s ≡ Less) (λ y. slice_cmp nat_cmp (f y) s ≡ Greater) xs place) (d : X) where
  unlike : (x t : List ℕ) (o : Ordering) → slice_cmp nat_cmp x t ≡ o → bytes_eq x t ≡ is_eq o
  unlike x t o e = sym (is_eq-slice_cmp x t) ∙ ap is_eq e

  pub not_there : list_any (λ y. bytes_eq (f y) s) xs ≡ false
  not_there = list_any_none (λ y. bytes_eq (f y) s) xs (All-from_get_or (λ y. bytes_eq (f y) s ≡ false) xs d (λ k lt. elim (cases_lt k place) [
    | inl lower ↦ unlike (f (get_or xs k d)) s Less (parts.0 k d (omega arith) lower)
    | inr higher ↦ unlike (f (get_or xs k d)) s Greater (parts.1 k d higher lt)
  ]))

  -- nor is a front part that the text before the place doesn't begin with
  pub no_front : (l : ℕ) → (0 < place → starts_with nat_eq (f (get_or xs (place - 1) d)) (take l s) ≡ false) → place ≤ length xs → list_any (λ y. bytes_eq (f y) (take l s)) xs ≡ false
  no_front l other within = list_any_none (λ y. bytes_eq (f y) (take l s)) xs (All-from_get_or (λ y. bytes_eq (f y) (take l s) ≡ false) xs d (λ k lt. elim (cases_Bool (bytes_eq (f (get_or xs k d)) (take l s))) [
    | inl holds ↦
        let equal : f (get_or xs k d) ≡ take l s = (bytes_eq-Decides (f (get_or xs k d)) (take l s)).0 holds in
        elim (cases_lt k place) [
          | inl lower ↦
              let less : slice_cmp nat_cmp (f (get_or xs (place - 1) d)) s ≡ Less = parts.0 (place - 1) d (omega arith) (omega (arith, lower)) in
              let front : slice_cmp nat_cmp (f (get_or xs (place - 1) d)) (take l s) ≡ Less = below_front (f (get_or xs (place - 1) d)) s l less (other (omega (arith, lower))) in
              let far : is_lt (slice_cmp nat_cmp (f (get_or xs (place - 1) d)) (f (get_or xs k d))) ≡ false =
              sorted_far (λ x y. is_lt (slice_cmp nat_cmp (f x) (f y))) (ranks_by nat_list_cmp_total f) xs sorted k (place - 1) d (omega (arith, lower)) (omega (arith, lower, within)) in
              absurd (cc (rw (equal, front) at far))
          | inr higher ↦
              let greater : slice_cmp nat_cmp (f (get_or xs k d)) s ≡ Greater = parts.1 k d higher lt in
              absurd (front_no_greater s l (rw equal at greater))
        ]
    | inr fails ↦ fails
  ]))

-- ---- ascending lengths

pub front_rises : (ns : List ℕ) (i : ℕ) → IsNonDecreasing ns → i ≤ length ns → IsNonDecreasing (take i ns)
front_rises ns i up le j k d low lt =
    let long : k < i = omega (arith, lt, length-take-le i ns le) in
    rw (get_or-take i ns j d (omega (arith, low, long)), get_or-take i ns k d long) (up j k d low (omega (arith, long, le)))

module _ (test : ℕ → Bool) (ns : List ℕ) where
  -- the lengths from a place on don't pass
  abbrev pub NoneFrom : ℕ → Type 0
  NoneFrom i = (k : ℕ) → i ≤ k → k < length ns → test (get_or ns k 0) ≡ false

  pub none_at_end : NoneFrom (length ns)
  none_at_end k from lt = absurd (omega (arith, from, lt))

  pub further : (i j bound : ℕ) → IsNonDecreasing ns → i < length ns → NoneFrom (i + 1) → test (get_or ns i 0) ≡ false → ((l : ℕ) → bound ≤ l → l ≤ get_or ns i 0 → test l ≡ false)
      → IsPartitionPoint (λ n. nat_lt n bound ≡ true) (λ n. nat_lt n bound ≡ false) (take i ns) j → NoneFrom j
  further i j bound up within later here shorter point k from lt = elim (cases_lt k i) [
    | inl before ↦
        let short : length (take i ns) ≡ i = length-take-le i ns (omega (arith, within)) in
        let high = point.1 k 0 from (omega (arith, before, short)) in
        let read : get_or (take i ns) k 0 ≡ get_or ns k 0 = get_or-take i ns k 0 before in
        let high' : nat_lt (get_or ns k 0) bound ≡ false = rw read at high in
        let over : bound ≤ get_or ns k 0 = grind (arith, nat_tests) in
        shorter (get_or ns k 0) over (up k i 0 (omega (arith, before)) within)
    | inr behind ↦ elim (cases_eq k i) [
      | inl equal ↦ rw equal here
      | inr other ↦ later k (omega (arith, behind, other)) lt
    ]
  ]
