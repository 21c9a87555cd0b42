-- Texts that begin with others, and where they stand among sorted ones.
use Rattle.std.proofs.Common.{◌≡◌, ◌∙◌, sym, ap, inl, inr, ℕ, ◌+◌, ◌<◌, ◌≤◌, List, [], ◌∷◌, ◌++◌, Bool, true, false, ◌&&◌, ◌||◌, length, get_or, take, drop, map, refl, arith}
use Rattle.std.specs.Prelude.{nat_eq}
use Rattle.std.specs.List.{starts_with, list_any}
use Rattle.std.specs.List.Sorted.{IsSorted, IsPartitionPoint, IsPartitionedBy}
use Rattle.std.specs.Cmp.Lexicographic.{slice_cmp}
use Rattle.std.specs.Ordering.{nat_cmp, is_lt, ordering_then, ordering_index}
use Rattle.std.specs.declared.cmp.Ordering.{Ordering}
use Rattle.std.specs.declared.cmp.Ordering.TheVariants.{Less, Equal, Greater}
use Rattle.std.proofs.lemmas.Bool.{cases_Bool, cases_eq, cases_lt}
use Rattle.std.proofs.lemmas.Bool.Decides.{nat_tests}
use Rattle.std.proofs.lemmas.Cmp.{nat_list_cmp_total}
use Rattle.std.proofs.lemmas.List.{get_or_default, get_or-drop, get_or-take, length-drop, length-take, take-append-drop}
use Rattle.std.proofs.lemmas.List.Folds.{list_any-append, list_any_none}
use Rattle.std.proofs.lemmas.List.Sorted.{searchable_from_sorted, sorted_far, ranks_by}
use Rattle.proto_names.specs.Files.{ends_component, begins as components_begin}
use Rattle.proto_decls.specs.FullNames.{dot}
use Rattle.proto_names.proofs.Alike.{any_agree}
use Rattle.proto_names.proofs.Search.{below, same}

both : (a b c : Bool) → (a && (b && c)) ≡ ((a && b) && c)
both true b c = refl
both false b c = refl

-- a text begins with two texts where it begins with the one and goes on with the other
pub starts_twice : (p n d : List ℕ) → starts_with nat_eq p (n ++ d) ≡ (starts_with nat_eq p n && starts_with nat_eq (drop (length n) p) d)
starts_twice p [] d = refl
starts_twice [] (x ∷ n) d = refl
starts_twice (y ∷ p) (x ∷ n) d = rw (starts_twice p n d) (both (nat_eq x y) (starts_with nat_eq p n) (starts_with nat_eq (drop (length n) p) d))

pub goes_on : (p n d : List ℕ) → starts_with nat_eq p n ≡ true → starts_with nat_eq (drop (length n) p) d ≡ starts_with nat_eq p (n ++ d)
goes_on p n d e = rw (starts_twice p n d, e) refl

pub fails_at_once : (p n d : List ℕ) → starts_with nat_eq p n ≡ false → false ≡ starts_with nat_eq p (n ++ d)
fails_at_once p n d e = rw (starts_twice p n d, e) refl

then_twice : (a b c : Ordering) → ordering_then a (ordering_then b c) ≡ ordering_then (ordering_then a b) c
then_twice Less b c = refl
then_twice Equal b c = refl
then_twice Greater b c = refl

pub cmp_short : (p n d : List ℕ) → length p < length n → slice_cmp nat_cmp p (n ++ d) ≡ slice_cmp nat_cmp p n
cmp_short p [] d lt = absurd (omega (arith, lt))
cmp_short [] (x ∷ n) d lt = refl
cmp_short (y ∷ p) (x ∷ n) d lt = rw (cmp_short p n d (omega (arith, lt))) refl

pub cmp_long : (p n d : List ℕ) → length n ≤ length p
    → slice_cmp nat_cmp p (n ++ d) ≡ ordering_then (slice_cmp nat_cmp (take (length n) p) n) (slice_cmp nat_cmp (drop (length n) p) d)
cmp_long p [] d le = refl
cmp_long [] (x ∷ n) d le = absurd (omega (arith, le))
cmp_long (y ∷ p) (x ∷ n) d le = rw (cmp_long p n d (omega (arith, le))) (then_twice (nat_cmp y x) (slice_cmp nat_cmp (take (length n) p) n) (slice_cmp nat_cmp (drop (length n) p) d))

-- a text that begins with another doesn't come before it
not_before : (p key : List ℕ) → starts_with nat_eq p key ≡ true → is_lt (slice_cmp nat_cmp p key) ≡ false
not_before [] [] e = refl
not_before (y ∷ p) [] e = refl
not_before [] (k ∷ key) e = absurd (cc (e))
not_before (y ∷ p) (k ∷ key) e = elim (cases_eq k y) [
  | inl equal ↦ let rest : starts_with nat_eq p key ≡ true = grind (arith, nat_tests) in rw (equal, same y) (not_before p key rest)
  | inr other ↦ absurd (grind (arith, nat_tests))
]

-- where a text that isn't before another doesn't begin with it, no later one does
beyond : (a b key : List ℕ) → is_lt (slice_cmp nat_cmp a key) ≡ false → starts_with nat_eq a key ≡ false → is_lt (slice_cmp nat_cmp b a) ≡ false
    → starts_with nat_eq b key ≡ false
beyond a b [] from e up = absurd (cc (e))
beyond [] b (k ∷ key) from e up = absurd (cc (from))
beyond (x ∷ a) [] (k ∷ key) from e up = refl
beyond (x ∷ a) (y ∷ b) (k ∷ key) from e up = elim (cases_eq k y) [
  | inl equal ↦ elim (cases_eq k x) [
    | inl equal' ↦
        let from' : is_lt (slice_cmp nat_cmp a key) ≡ false = rw (← equal', same k) at from in
        let e' : starts_with nat_eq a key ≡ false = grind (arith, nat_tests) in
        let up' : is_lt (slice_cmp nat_cmp b a) ≡ false = rw (← equal, ← equal', same k) at up in
        let rest : starts_with nat_eq b key ≡ false = beyond a b key from' e' up' in
        grind (arith, nat_tests)
    | inr other' ↦ elim (cases_lt x k) [
      | inl less ↦ absurd (cc (rw (below x k less) at from))
      | inr up_to ↦ absurd (cc (rw (below y x (omega (arith, equal, other', up_to))) at up))
    ]
  ]
  | inr other ↦ grind (arith, nat_tests)
]

less_by_index : (o : Ordering) → ordering_index o ≤ 0 → is_lt o ≡ true
less_by_index Less le = refl
less_by_index Equal le = absurd (omega (arith, le))
less_by_index Greater le = absurd (omega (arith, le))

index_of_less : (o : Ordering) → is_lt o ≡ true → ordering_index o ≤ 0
index_of_less Less e = omega arith
index_of_less Equal e = absurd (cc (e))
index_of_less Greater e = absurd (cc (e))

pub alone : (b : Bool) → (b || false) ≡ b
alone true = refl
alone false = refl

-- what passes is in front of a place or behind it
any_split : {S : Type 0} (p : S → Bool) (xs : List S) (n : ℕ) → list_any p xs ≡ (list_any p (take n xs) || list_any p (drop n xs))
any_split p xs n = ap (list_any p) (sym (take-append-drop n xs)) ∙ list_any-append p (take n xs) (drop n xs)

-- in sorted texts, those that begin with a text stand together that isn't before a text tells whether any begins with it
module _ {S : Type 0} (bytes : S → List ℕ) (names : List S) (key : List ℕ) (sorted : IsSorted (λ x y. slice_cmp nat_cmp (bytes x) (bytes y)) names) where
  abbrev is_before : S → Bool
  is_before s = is_lt (slice_cmp nat_cmp (bytes s) key)

  abbrev begins : S → Bool
  begins s = starts_with nat_eq (bytes s) key

  none_before : (s : S) → is_before s ≡ true → begins s ≡ false
  none_before s lt = elim (cases_Bool (begins s)) [
    | inl starts ↦ absurd (cc (lt, not_before (bytes s) key starts))
    | inr other ↦ other
  ]

  pub parted : IsPartitionedBy is_before names
  parted i j d le lt e =
      let rises = searchable_from_sorted nat_list_cmp_total bytes names key sorted in
      less_by_index (slice_cmp nat_cmp (bytes (get_or names i d)) key)
      (omega (arith, rises i j d le lt, index_of_less (slice_cmp nat_cmp (bytes (get_or names j d)) key) e))

  module _ (place : ℕ) (point : IsPartitionPoint (λ s. is_before s ≡ true) (λ s. is_before s ≡ false) names place) where
    below_place : (k : ℕ) (d : S) → k < place → begins (get_or names k d) ≡ false
    below_place k d lt = none_before (get_or names k d) (point.0 k d (omega arith) lt)

    later_fails : (i j : ℕ) (d : S) → place ≤ i → i ≤ j → j < length names → begins (get_or names i d) ≡ false → begins (get_or names j d) ≡ false
    later_fails i j d from le lt other =
        beyond (bytes (get_or names i d)) (bytes (get_or names j d)) key (point.1 i d from (omega (arith, le, lt))) other
        (sorted_far (λ x y. is_lt (slice_cmp nat_cmp (bytes x) (bytes y))) (ranks_by nat_list_cmp_total bytes) names sorted i j d le lt)

    -- those from there on that begin with the text come first
    pub begin_first : IsPartitionedBy begins (drop place names)
    begin_first i j d le lt e =
        let long : place + j < length names = omega (arith, lt, length-drop place names) in
        elim (cases_Bool (begins (get_or (drop place names) i d))) [
          | inl starts ↦ starts
          | inr other ↦
              let fails = later_fails (place + i) (place + j) d (omega arith) (omega (arith, le)) long (rw (get_or-drop place names i d) at other) in
              absurd (cc (rw (get_or-drop place names j d) at e, fails))
        ]

    -- where the first of those doesn't begin with the text, or there is none, none does
    pub none_at : (d : S) (test : S → Bool) → begins (get_or names place d) ≡ false → list_any (λ s. begins s && test s) names ≡ false
    none_at d test other = list_any_none (λ s. begins s && test s) names (λ k e lt. elim (cases_lt k place) [
      | inl lower ↦ rw (below_place k e lower) refl
      | inr from ↦
          let other' : begins (get_or names place e) ≡ false = rw (get_or_default names place d e (omega (arith, from, lt))) at other in
          rw (later_fails place k e (omega arith) from lt other') refl
    ])

    pub none_past : (test : S → Bool) → length names ≤ place → list_any (λ s. begins s && test s) names ≡ false
    none_past test le = list_any_none (λ s. begins s && test s) names (λ k d lt. rw (below_place k d (omega (arith, le, lt))) refl)

    module _ (count : ℕ) (end : IsPartitionPoint (λ s. begins s ≡ true) (λ s. begins s ≡ false) (drop place names) count) (test : S → Bool) where
      abbrev passes : S → Bool
      passes s = begins s && test s

      within_take : (n k : ℕ) (xs : List S) → k < length (take n xs) → (k < n) × (k < length xs)
      within_take n k xs lt = (omega (arith, lt, length-take n xs), omega (arith, lt, length-take n xs))

      none_first : list_any passes (take place names) ≡ false
      none_first = list_any_none passes (take place names) (λ k d lt.
          let inside = within_take place k names lt in
          rw (get_or-take place names k d inside.0, below_place k d inside.0) refl)

      all_then : list_any passes (take count (drop place names)) ≡ list_any test (take count (drop place names))
      all_then = any_agree passes test (take count (drop place names)) (λ k d lt.
          let inside = within_take count k (drop place names) lt in
          let starts = end.0 k d (omega arith) inside.0 in
          rw (get_or-take count (drop place names) k d inside.0, starts) refl)

      none_last : list_any passes (drop count (drop place names)) ≡ false
      none_last = list_any_none passes (drop count (drop place names)) (λ k d lt.
          let fails = end.1 (count + k) d (omega arith) (omega (arith, lt, length-drop count (drop place names))) in
          rw (get_or-drop count (drop place names) k d, fails) refl)

      -- those of them that pass a test are those in between that do
      pub run_is : list_any test (take count (drop place names)) ≡ list_any passes names
      run_is =
          sym (any_split passes names place ∙ ap (λ b. b || list_any passes (drop place names)) none_first
          ∙ any_split passes (drop place names) count ∙ ap (λ b. list_any passes (take count (drop place names)) || b) none_last
          ∙ alone (list_any passes (take count (drop place names))) ∙ all_then)

pub any_map : {A B : Type 0} (p : B → Bool) (h : A → B) (xs : List A) → list_any p (map h xs) ≡ list_any (λ x. p (h x)) xs
any_map p h [] = refl
any_map p h (x ∷ xs) = rw (any_map p h xs) refl

never : (b : Bool) → (b && false) ≡ false
never true = refl
never false = refl

nothing_begins : (q : List ℕ) → starts_with nat_eq [] (q ++ dot ∷ []) ≡ false
nothing_begins [] = refl
nothing_begins (x ∷ q) = refl

-- with a dot behind both, a package begins with a name where its first components are the name's
pub dotted : (n q : List ℕ) → starts_with nat_eq (n ++ dot ∷ []) (q ++ dot ∷ []) ≡ components_begin n q
dotted [] [] = refl
dotted (c ∷ n) [] = grind (arith, nat_tests)
dotted [] (k ∷ q) = rw (nothing_begins q) (never (nat_eq k dot))
dotted (c ∷ n) (k ∷ q) = rw (dotted n q) (both (nat_eq k c) (starts_with nat_eq n q) (ends_component (drop (length q) n)))
