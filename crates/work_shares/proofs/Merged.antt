-- Stretches that cover files, sorted by their first files, are the files.
use Rattle.std.proofs.Common.{◌≡◌, ◌∙◌, sym, ap, ap₂, subst, refl, inl, inr, ⊎_elim, ◌==◌, ◌&&◌, ◌<◌, ◌≤◌, ◌+◌, ℕ, zero, suc, List, [], ◌∷◌, ◌++◌, Bool, true, false, filter, flat_map, length, arith}
use Rattle.std.specs.Prelude.{All, Contains, ⊤}
use Rattle.std.specs.List.{AllByRecursion, IsDistinct}
use Rattle.std.specs.List.Sorted.{IsNonDecreasingBy, IsPermutation}
use Rattle.std.proofs.lemmas.Bool.{cases_Bool}
use Rattle.std.proofs.lemmas.Bool.Decides.{nat_tests}
use Rattle.std.proofs.lemmas.List.Elements.{All-cons, All-head, All-nil, All-tail, All-weaker}
use Rattle.std.proofs.lemmas.List.Sorted.{Contains-permutation, IsPermutation-sym, IsPermutation-trans}
use Rattle.std.proofs.lemmas.Map.Keys.{IsDistinct-IsPermutation}
use Rattle.proto_decls.specs.declared.named_facts.NamedFacts.{NamedFacts}
use Rattle.import_graph.proofs.ImportEdges.{here, here_or_next, next, filter_from, filter_to}
use Rattle.work_shares.specs.Stretches.{PartData, Cover, FollowFrom}

abbrev key : PartData → ℕ
key p = p.first

abbrev files_of : PartData → List NamedFacts
files_of p = p.files

abbrev is_some : List NamedFacts → Bool
is_some [] = false
is_some (f ∷ fs) = true

abbrev has_files : PartData → Bool
has_files p = is_some (files_of p)

-- each one's first file comes before those of the later ones
abbrev Rises : List PartData → Type 0
Rises [] = ⊤
Rises (p ∷ ps) = All (λ q. key p < key q) ps × Rises ps

-- ---- two such lists with the same elements are one

above : (p : PartData) (ps : List PartData) → All (λ q. key p < key q) ps → (g : PartData) → Contains ps g → key p < key g
above p ps up g (k, lt, e) = subst (λ q. key p < key q) e (up k g lt)

unique : (xs ys : List PartData) → Rises xs → Rises ys → ((g : PartData) → Contains xs g → Contains ys g) → ((g : PartData) → Contains ys g → Contains xs g) → xs ≡ ys
unique [] [] sx sy to back = refl
unique [] (y ∷ ys) sx sy to back = let bad = back y (here y ys) in absurd (omega (arith, bad.1))
unique (x ∷ xs) [] sx sy to back = let bad = to x (here x xs) in absurd (omega (arith, bad.1))
unique (x ∷ xs) (y ∷ ys) sx sy to back =
    let same : x ≡ y = ⊎_elim (λ e. sym e)
    (λ later. ⊎_elim (λ e. e) (λ also. absurd (omega (arith, above y ys sy.0 x later, above x xs sx.0 y also))) (here_or_next x y xs (back y (here y ys))))
    (here_or_next y x ys (to x (here x xs))) in
    let rest = unique xs ys sx.1 sy.1
    (λ g has. ⊎_elim (λ e. absurd (omega (arith, above x xs sx.0 g has, ap key same, ap key e))) (λ later. later) (here_or_next y g ys (to g (next x g xs has))))
    (λ g has. ⊎_elim (λ e. absurd (omega (arith, above y ys sy.0 g has, ap key same, ap key e))) (λ later. later) (here_or_next x g xs (back g (next y g ys has)))) in
    ap₂ (λ (p : PartData) (ps : List PartData). p ∷ ps) same rest

-- ---- stretches that follow

unlike : (a b : ℕ) → a < b → (a == b) ≡ false
unlike a b lt = grind (arith, nat_tests)

apart : (a b : ℕ) → a ≤ b → (a == b) ≡ false → a < b
apart a b le other = grind (arith, nat_tests)

-- both have files, and the same first one
abbrev meet : PartData → PartData → Bool
meet p q = (key p == key q) && (has_files p && has_files q)

meet_alike : (p q : PartData) → meet p q ≡ meet q p
meet_alike p q = go (key p) (key q) (has_files p) (has_files q)
  where
    go : (a b : ℕ) (c d : Bool) → ((a == b) && (c && d)) ≡ ((b == a) && (d && c))
    go a b true true = grind (arith, nat_tests)
    go a b true false = grind (arith, nat_tests)
    go a b false true = grind (arith, nat_tests)
    go a b false false = grind (arith, nat_tests)

meets_not : (p q : PartData) → key p < key q → meet p q ≡ false
meets_not p q lt = rw (unlike (key p) (key q) lt) refl

no_files : (p : PartData) → has_files p ≡ false → files_of p ≡ []
no_files p none = go (files_of p) none
  where
    go : (fs : List NamedFacts) → is_some fs ≡ false → fs ≡ []
    go [] e = refl
    go (f ∷ fs) e = absurd (cc (e))

some_files : (p : PartData) → has_files p ≡ true → 0 < length (files_of p)
some_files p some = go (files_of p) some
  where
    go : (fs : List NamedFacts) → is_some fs ≡ true → 0 < length fs
    go [] e = absurd (cc (e))
    go (f ∷ fs) e = omega arith

from_on : (n : ℕ) (ps : List PartData) → FollowFrom n ps → All (λ q. n ≤ key q) ps
from_on n [] f = All-nil (λ q. n ≤ key q)
from_on n (p ∷ ps) f = All-cons (λ q. n ≤ key q) p ps (omega (arith, f.0))
    (All-weaker (λ q. n + length (files_of p) ≤ key q) (λ q. n ≤ key q) (λ q le. omega (arith, le)) ps (from_on (n + length (files_of p)) ps f.1))

-- of these none meets a later one
followed_apart : (n : ℕ) (ps : List PartData) → FollowFrom n ps → IsDistinct meet ps
unfolding IsDistinct
followed_apart n [] f = tt
followed_apart n (p ∷ ps) f = (all_apart ps (from_on (n + length (files_of p)) ps f.1), followed_apart (n + length (files_of p)) ps f.1)
  where
    one : (q : PartData) → n + length (files_of p) ≤ key q → meet p q ≡ false
    one q le = elim (cases_Bool (has_files p)) [
      | inl some ↦ meets_not p q (omega (arith, le, f.0, some_files p some))
      | inr none ↦ rw none (go (key p == key q))
    ]
      where
        go : (b : Bool) → (b && false) ≡ false
        go true = refl
        go false = refl

    all_apart : (qs : List PartData) → All (λ q. n + length (files_of p) ≤ key q) qs → AllByRecursion (λ q. meet p q ≡ false) qs
    all_apart [] all = tt
    all_apart (q ∷ qs) all = (one q (All-head (λ q. n + length (files_of p) ≤ key q) q qs all), all_apart qs (All-tail (λ q. n + length (files_of p) ≤ key q) q qs all))

apart_from : (p : PartData) (qs : List PartData) → has_files p ≡ true → All (λ q. key p ≤ key q) qs → AllByRecursion (λ q. meet p q ≡ false) qs → All (λ q. key p < key q) (filter has_files qs)
apart_from p [] some up distinct = All-nil (λ q. key p < key q)
apart_from p (q ∷ qs) some up distinct =
    let rest = apart_from p qs some (All-tail (λ q. key p ≤ key q) q qs up) distinct.1 in
    elim (cases_Bool (has_files q)) [
      | inl passes ↦
          let other : (key p == key q) ≡ false = go (key p == key q) (rw (some, passes) at distinct.0) in
          rw passes (All-cons (λ q. key p < key q) q (filter has_files qs) (apart (key p) (key q) (All-head (λ q. key p ≤ key q) q qs up) other) rest)
      | inr fails ↦ rw fails rest
    ]
  where
    go : (b : Bool) → (b && (true && true)) ≡ false → b ≡ false
    go true e = absurd (cc (e))
    go false e = refl

-- those that have files rise
rises_sorted : (xs : List PartData) → IsNonDecreasingBy key xs → IsDistinct meet xs → Rises (filter has_files xs)
unfolding IsDistinct
rises_sorted [] up distinct = tt
rises_sorted (x ∷ xs) up distinct =
    let rest = rises_sorted xs (λ i j d le lt. up (suc i) (suc j) d (omega (arith, le)) (omega (arith, lt))) distinct.1 in
    elim (cases_Bool (has_files x)) [
      | inl passes ↦ rw passes (apart_from x xs passes (λ k d lt. up 0 (suc k) d (omega arith) (omega (arith, lt))) distinct.0, rest)
      | inr fails ↦ rw fails rest
    ]

followed_rise : (n : ℕ) (ps : List PartData) → FollowFrom n ps → IsNonDecreasingBy key ps
followed_rise n [] f i j d le lt = absurd (omega (arith, lt))
followed_rise n (p ∷ ps) f zero zero d le lt = omega arith
followed_rise n (p ∷ ps) f zero (suc j) d le lt = omega (arith, f.0, from_on (n + length (files_of p)) ps f.1 j d (omega (arith, lt)))
followed_rise n (p ∷ ps) f (suc i) zero d le lt = absurd (omega (arith, le))
followed_rise n (p ∷ ps) f (suc i) (suc j) d le lt = followed_rise (n + length (files_of p)) ps f.1 i j d (omega (arith, le)) (omega (arith, lt))

files_in : (ps : List PartData) → flat_map files_of (filter has_files ps) ≡ flat_map files_of ps
files_in [] = refl
files_in (p ∷ ps) = elim (cases_Bool (has_files p)) [
  | inl passes ↦ rw passes (ap (λ (fs : List NamedFacts). files_of p ++ fs) (files_in ps))
  | inr fails ↦ rw (fails, no_files p fails) (files_in ps)
]

-- stretches that cover the files, sorted by their first files, are the files
pub in_order : (files : List NamedFacts) (parts sorted : List PartData) → Cover files parts → IsPermutation parts sorted → IsNonDecreasingBy key sorted → flat_map files_of sorted ≡ files
in_order files parts sorted cover same up =
    let there : IsPermutation cover.ordered sorted = IsPermutation-trans cover.ordered parts sorted (IsPermutation-sym parts cover.ordered cover.same) same in
    let distinct = followed_apart 0 cover.ordered cover.follow in
    let is : filter has_files sorted ≡ filter has_files cover.ordered = unique (filter has_files sorted) (filter has_files cover.ordered)
    (rises_sorted sorted up (IsDistinct-IsPermutation meet meet_alike cover.ordered sorted there distinct))
    (rises_sorted cover.ordered (followed_rise 0 cover.ordered cover.follow) distinct)
    (λ g has. let r = filter_from has_files sorted g has in filter_to has_files cover.ordered g (Contains-permutation sorted cover.ordered g (IsPermutation-sym cover.ordered sorted there) r.0) r.1)
    (λ g has. let r = filter_from has_files cover.ordered g has in filter_to has_files sorted g (Contains-permutation cover.ordered sorted g there r.0) r.1) in
    sym (files_in sorted) ∙ ap (flat_map files_of) is ∙ files_in cover.ordered ∙ cover.whole
