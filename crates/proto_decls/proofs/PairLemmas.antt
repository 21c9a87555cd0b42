-- The pairs of a text that were seen so far.
use Rattle.std.proofs.Common.{◌≡◌, ℕ, ◌+◌, ◌-◌, ◌<◌, ◌≤◌, List, Bool, true, false, inl, inr, length, set, get_or, get_or-set_other, get_or-set_same, slice_index, take, refl, sym, ap, ap₂, ◌∙◌, arith}
use Rattle.std.specs.Prelude.{All}
use Rattle.std.proofs.lemmas.Bool.{cases_eq}
use Rattle.std.proofs.lemmas.List.{get_or-take, get_or_default, length-take-le}
use Rattle.std.specs.Char.{to_ascii_lowercase}
use Rattle.proto_decls.specs.BytePairs.{kind_of, HasPairs, HasNeighbours}

-- the kind of the pair at a place
abbrev pub kind_at : List ℕ → ℕ → ℕ
kind_at text i = kind_of (slice_index text i) (slice_index text (i + 1))

-- the pairs in the first n bytes were seen
abbrev pub HasUpTo : List Bool → List ℕ → ℕ → Type 0
HasUpTo seen text n = (i : ℕ) → i + 1 < n → get_or seen (kind_at text i) false ≡ true

-- what was seen stays so
stays : (seen : List Bool) (k j : ℕ) → k < length seen → get_or seen j false ≡ true → get_or (set seen k true) j false ≡ true
stays seen k j within there = elim (cases_eq j k) [
  | inl is ↦ ap (λ (n : ℕ). get_or (set seen k true) n false) is ∙ get_or-set_same seen k true false within
  | inr other ↦ get_or-set_other seen k j true false other ∙ there
]

pub kept-one : (seen : List Bool) (k : ℕ) (other : List ℕ) → k < length seen → HasPairs seen other → HasPairs (set seen k true) other
kept-one seen k other within has = λ i there. stays seen k (kind_at other i) within (has i there)

-- one pair more
pub one-more : (seen : List Bool) (text : List ℕ) (n : ℕ) → 1 ≤ n → kind_of (slice_index text (n - 1)) (slice_index text n) < length seen → HasUpTo seen text n → HasUpTo (set seen (kind_of (slice_index text (n - 1)) (slice_index text n)) true) text (n + 1)
one-more seen text n some within has = λ i there.
    let k = kind_of (slice_index text (n - 1)) (slice_index text n) in
    elim (cases_eq i (n - 1)) [
      | inl is ↦
          let next : i + 1 ≡ n = omega (arith, is, some) in
          let same : kind_at text i ≡ k = ap₂ (λ (x y : ℕ). kind_of (slice_index text x) (slice_index text y)) is next in
          ap (λ (j : ℕ). get_or (set seen k true) j false) same ∙ get_or-set_same seen k true false within
      | inr other ↦ stays seen k (kind_at text i) within (has i (omega (arith, there, other, some)))
    ]

-- the case of letters doesn't count
same-kind : (a b c d : ℕ) → to_ascii_lowercase a ≡ to_ascii_lowercase c → to_ascii_lowercase b ≡ to_ascii_lowercase d → kind_of a b ≡ kind_of c d
same-kind a b c d one two = rw (one, two) refl

-- what has all neighbours of a query has its pairs
pub of-neighbours : (seen : List Bool) (name query : List ℕ) → HasPairs seen name → HasNeighbours name query → HasPairs seen query
of-neighbours seen name query has beside = λ i there.
    let at = beside i there in
    ap (λ (k : ℕ). get_or seen k false) (sym (same-kind (slice_index name at.place) (slice_index name (at.place + 1)) (slice_index query i) (slice_index query (i + 1)) at.first_is at.second_is)) ∙ has at.place at.within

-- what holds of the first n elements and of the next one
pub All-one_more : {X : Type 0} (P Q : X → Type 0) (xs : List X) (n : ℕ) (x : X) → ((y : X) → P y → Q y) → n < length xs → get_or xs n x ≡ x → All P (take n xs) → Q x → All Q (take (n + 1) xs)
All-one_more P Q xs n x kept within is before here = λ k d there.
    let long = length-take-le (n + 1) xs (omega (arith, within)) in
    let shorter = length-take-le n xs (omega (arith, within)) in
    let below : k < n + 1 = omega (arith, there, long) in
    elim (cases_eq k n) [
      | inl same ↦
          let at : get_or (take (n + 1) xs) k d ≡ x = get_or-take (n + 1) xs k d below ∙ ap (λ (m : ℕ). get_or xs m d) same ∙ get_or_default xs n d x within ∙ is in
          rw at here
      | inr other ↦
          let lt : k < n = omega (arith, below, other) in
          let at : get_or (take (n + 1) xs) k d ≡ get_or (take n xs) k d = get_or-take (n + 1) xs k d below ∙ sym (get_or-take n xs k d lt) in
          rw at (kept _ (before k d (omega (arith, lt, shorter))))
    ]
