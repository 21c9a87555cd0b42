-- Declarations by the hashes of their texts.
use Rattle.std.proofs.Common.{◌≡◌, ◌∙◌, sym, ap, ap₂, refl, inl, inr, ◌==◌, ◌<◌, ◌≤◌, ◌+◌, ◌-◌, ℕ, zero, suc, List, [], ◌∷◌, ◌++◌, Bool, true, false, map, filter, take, drop, get_or, length, append-nil, bytes_eq, arith}
use Rattle.std.specs.Prelude.{All, nat_lt}
use Rattle.std.specs.List.{list_any}
use Rattle.std.specs.List.Sorted.{IsNonDecreasing, IsPartitionedBy, IsPartitionPoint, IsSorted, IsSortedBy}
use Rattle.std.specs.Cmp.Lexicographic.{slice_cmp}
use Rattle.std.specs.Ordering.{is_eq, is_lt, nat_cmp, ordering_reverse}
use Rattle.std.specs.declared.cmp.Ordering.{Ordering}
use Rattle.std.specs.declared.cmp.Ordering.TheVariants.{Less, Equal, Greater}
use Rattle.std.proofs.lemmas.Bool.{cases_Bool, cases_lt}
use Rattle.std.proofs.lemmas.Bool.Decides.{nat_tests}
use Rattle.std.proofs.lemmas.Cmp.{nat_list_cmp_total}
use Rattle.std.proofs.lemmas.List.{drop-map, get_or_default, get_or-drop, get_or-map, get_or-take, length-drop, length-map, length-take, take-append-drop}
use Rattle.std.proofs.lemmas.List.Elements.{All-cons, All-head, All-nil, All-tail, filter-append, filter_passes}
use Rattle.std.proofs.lemmas.List.Kept.{IsSortedBy-filter}
use Rattle.std.proofs.lemmas.List.Sorted.{ranks_by, sorted_far}
use Rattle.std.proofs.lemmas.Map.Text.{is_eq-slice_cmp}
use Rattle.std.proofs.lemmas.Slice.Eq.{bytes_eq-Decides}
use Rattle.proto_names.specs.declared.hashed.HashedDecl.{HashedDecl}
use Rattle.proto_names.specs.declared.decl_ref.DeclRef.{DeclRef}
use Rattle.proto_names.specs.Hashed.{hashed, with_hash, AreByHash}
use Rattle.proto_decls.specs.FullNames.{hash_of}
use Rattle.proto_names.proofs.Search.{below, same}

-- ---- the order

-- whether a declaration comes before another, by the hashes that stand with them, then by text
abbrev pub is_before : (DeclRef → List ℕ) → HashedDecl → HashedDecl → Bool
is_before text a b = is_lt (slice_cmp nat_cmp (a.hash ∷ text a.decl) (b.hash ∷ text b.decl))

-- ---- what a test keeps

module _ {S : Type 0} (p : S → Bool) where
  pub keeps_none : (xs : List S) → All (λ x. p x ≡ false) xs → filter p xs ≡ []
  keeps_none [] none = refl
  keeps_none (x ∷ xs) none = rw (All-head (λ x. p x ≡ false) x xs none) (keeps_none xs (All-tail (λ x. p x ≡ false) x xs none))

  pub keeps_all : (xs : List S) → All (λ x. p x ≡ true) xs → filter p xs ≡ xs
  keeps_all [] all = refl
  keeps_all (x ∷ xs) all = rw (All-head (λ x. p x ≡ true) x xs all, keeps_all xs (All-tail (λ x. p x ≡ true) x xs all)) refl

  keeps_none_any : (xs : List S) → list_any p xs ≡ false → filter p xs ≡ []
  keeps_none_any [] none = refl
  keeps_none_any (x ∷ xs) none = elim (cases_Bool (p x)) [
    | inl passes ↦ absurd (cc (rw passes at none))
    | inr fails ↦ rw fails (keeps_none_any xs (rw fails at none))
  ]

  -- what passes a test is kept by a weaker one
  narrower : (q : S → Bool) → ((x : S) → q x ≡ true → p x ≡ true) → (xs : List S) → filter q (filter p xs) ≡ filter q xs
  narrower q weaker [] = refl
  narrower q weaker (x ∷ xs) = elim (cases_Bool (p x)) [
    | inl passes ↦ rw (passes, narrower q weaker xs) refl
    | inr fails ↦ elim (cases_Bool (q x)) [
      | inl holds ↦ absurd (cc (fails, weaker x holds))
      | inr other ↦ rw (fails, other) (narrower q weaker xs)
    ]
  ]

pub keeps_mapped : {A B : Type 0} (p : B → Bool) (f : A → B) (xs : List A) → filter p (map f xs) ≡ map f (filter (λ x. p (f x)) xs)
keeps_mapped p f [] = refl
keeps_mapped p f (x ∷ xs) = elim (cases_Bool (p (f x))) [
  | inl passes ↦ rw (passes, keeps_mapped p f xs) refl
  | inr fails ↦ rw fails (keeps_mapped p f xs)
]

-- ---- those that stand together

module _ {S : Type 0} (before alike : S → Bool) (xs : List S) (start : ℕ) (point : IsPartitionPoint (λ s. before s ≡ true) (λ s. before s ≡ false) xs start)
    (other : (s : S) → before s ≡ true → alike s ≡ false)
    (closed : (i j : ℕ) (d : S) → i ≤ j → j < length xs → before (get_or xs i d) ≡ false → alike (get_or xs j d) ≡ true → alike (get_or xs i d) ≡ true) where
  pub first_alike : IsPartitionedBy alike (drop start xs)
  first_alike i j d le lt e =
      let long : start + j < length xs = omega (arith, lt, length-drop start xs) in
      rw (get_or-drop start xs i d) (closed (start + i) (start + j) d (omega (arith, le)) long (point.1 (start + i) d (omega arith) (omega (arith, le, long))) (rw (get_or-drop start xs j d) at e))

  module _ (count : ℕ) (end : IsPartitionPoint (λ s. alike s ≡ true) (λ s. alike s ≡ false) (drop start xs) count) where
    within_take : (n k : ℕ) (ys : List S) → k < length (take n ys) → (k < n) × (k < length ys)
    within_take n k ys lt = (omega (arith, lt, length-take n ys), omega (arith, lt, length-take n ys))

    front : filter alike (take start xs) ≡ []
    front = keeps_none alike (take start xs) (λ k d lt.
        let inside = within_take start k xs lt in
        rw (get_or-take start xs k d inside.0) (other (get_or xs k d) (point.0 k d (omega arith) inside.0)))

    middle : filter alike (take count (drop start xs)) ≡ take count (drop start xs)
    middle = keeps_all alike (take count (drop start xs)) (λ k d lt.
        let inside = within_take count k (drop start xs) lt in
        rw (get_or-take count (drop start xs) k d inside.0) (end.0 k d (omega arith) inside.0))

    behind : filter alike (drop count (drop start xs)) ≡ []
    behind = keeps_none alike (drop count (drop start xs)) (λ k d lt.
        rw (get_or-drop count (drop start xs) k d) (end.1 (count + k) d (omega arith) (omega (arith, lt, length-drop count (drop start xs)))))

    rest : filter alike (drop start xs) ≡ take count (drop start xs)
    rest =
        ap (filter alike) (sym (take-append-drop count (drop start xs)))
        ∙ filter-append alike (take count (drop start xs)) (drop count (drop start xs))
        ∙ ap₂ (λ (ys zs : List S). ys ++ zs) middle behind ∙ append-nil (take count (drop start xs))

    pub run : take count (drop start xs) ≡ filter alike xs
    run = sym (ap (filter alike) (sym (take-append-drop start xs)) ∙ filter-append alike (take start xs) (drop start xs)
        ∙ ap₂ (λ (ys zs : List S). ys ++ zs) front rest)

-- a place with what passes right before it and what fails at it
module _ {S : Type 0} (p : S → Bool) (xs : List S) (parted : IsPartitionedBy p xs) (n : ℕ) where
  pub point_at : (0 < n → (d : S) → p (get_or xs (n - 1) d) ≡ true) → (n < length xs → (d : S) → p (get_or xs n d) ≡ false) → n ≤ length xs → IsPartitionPoint (λ s. p s ≡ true) (λ s. p s ≡ false) xs n
  point_at passes fails within = (
    λ k d from lt. parted k (n - 1) d (omega (arith, lt)) (omega (arith, lt, within)) (passes (omega (arith, lt)) d),
    λ k d from lt. elim (cases_Bool (p (get_or xs k d))) [
      | inl holds ↦ absurd (cc (fails (omega (arith, from, lt)) d, parted n k d from lt holds))
      | inr other ↦ other
    ],
  )

pub some_there : (n : ℕ) → (n == 0) ≡ false → 0 < n
some_there n e = grind (arith, nat_tests)

itself : (k : ℕ) → (k == k) ≡ true
itself k = grind (arith, nat_tests)

unlike : (a b : ℕ) → (a ≡ b → ⊥) → (a == b) ≡ false
unlike a b other = grind (arith, nat_tests)

-- the first number is the hash, and the second isn't
pub one_alone : (hashes : List ℕ) (hash : ℕ) → IsPartitionedBy (λ k. k == hash) hashes → (length hashes == 0) ≡ false → get_or hashes 0 0 ≡ hash → (1 < length hashes → get_or hashes 1 0 ≡ hash → ⊥)
    → IsPartitionPoint (λ k. (k == hash) ≡ true) (λ k. (k == hash) ≡ false) hashes 1
one_alone hashes hash parted some first second =
    let there : 0 < length hashes = some_there (length hashes) some in
    point_at (λ k. k == hash) hashes parted 1 (λ lt d. rw (get_or_default hashes 0 d 0 there, first) (itself hash))
    (λ lt d. rw (get_or_default hashes 1 d 0 lt) (unlike (get_or hashes 1 0) hash (second lt))) (omega (arith, there))

-- ---- those of one number

pub read_mapped : {A B : Type 0} (f : A → B) (xs : List A) (k : ℕ) (d : A) → get_or (map f xs) k (f d) ≡ f (get_or xs k d)
read_mapped f [] zero d = refl
read_mapped f [] (suc k) d = refl
read_mapped f (x ∷ xs) zero d = refl
read_mapped f (x ∷ xs) (suc k) d = read_mapped f xs k d

module _ {S : Type 0} (number : S → ℕ) where
  point_mapped : (p : ℕ → Bool) (xs : List S) (n : ℕ) → IsPartitionPoint (λ k. p k ≡ true) (λ k. p k ≡ false) (map number xs) n
      → IsPartitionPoint (λ s. p (number s) ≡ true) (λ s. p (number s) ≡ false) xs n
  point_mapped p xs n point = (
    λ k d from lt. ap p (sym (read_mapped number xs k d)) ∙ point.0 k (number d) from lt,
    λ k d from lt. ap p (sym (read_mapped number xs k d)) ∙ point.1 k (number d) from (omega (arith, lt, length-map xs number)),
  )

less_too : (a b hash : ℕ) → a ≤ b → nat_lt b hash ≡ true → nat_lt a hash ≡ true
less_too a b hash le e = grind (arith, nat_tests)

other_number : (hash s : ℕ) → nat_lt s hash ≡ true → (s == hash) ≡ false
other_number hash s e = grind (arith, nat_tests)

between : (a b hash : ℕ) → a ≤ b → nat_lt a hash ≡ false → (b == hash) ≡ true → (a == hash) ≡ true
between a b hash le from e = grind (arith, nat_tests)

module _ (hashes : List ℕ) (hash : ℕ) (up : IsNonDecreasing hashes) where
  pub lower_first : IsPartitionedBy (λ k. nat_lt k hash) hashes
  lower_first i j d le lt e = less_too (get_or hashes i d) (get_or hashes j d) hash (up i j d le lt) e

  pub hash_first : (start : ℕ) → IsPartitionPoint (λ k. nat_lt k hash ≡ true) (λ k. nat_lt k hash ≡ false) hashes start → IsPartitionedBy (λ k. k == hash) (drop start hashes)
  hash_first start point = first_alike (λ k. nat_lt k hash) (λ k. k == hash) hashes start point (other_number hash) (λ i j d le lt from e. between (get_or hashes i d) (get_or hashes j d) hash (up i j d le lt) from e)

  pub of_one_hash : {S : Type 0} (number : S → ℕ) (xs : List S) (start count : ℕ) → hashes ≡ map number xs
      → IsPartitionPoint (λ k. nat_lt k hash ≡ true) (λ k. nat_lt k hash ≡ false) hashes start
      → IsPartitionPoint (λ k. (k == hash) ≡ true) (λ k. (k == hash) ≡ false) (drop start hashes) count
      → take count (drop start xs) ≡ filter (λ s. number s == hash) xs
  of_one_hash {S} number xs start count are point end =
      let point' : IsPartitionPoint (λ k. nat_lt k hash ≡ true) (λ k. nat_lt k hash ≡ false) (map number xs) start = rw are at point in
      let end' : IsPartitionPoint (λ k. (k == hash) ≡ true) (λ k. (k == hash) ≡ false) (map number (drop start xs)) count = rw (are, drop-map number start xs) at end in
      let up' : IsNonDecreasing (map number xs) = rw are at up in
      run (λ s. nat_lt (number s) hash) (λ s. number s == hash) xs start (point_mapped number (λ k. nat_lt k hash) xs start point')
      (λ s e. other_number hash (number s) e)
      (λ i j d le lt from e.
      let rises = up' i j (number d) le (omega (arith, lt, length-map xs number)) in
      between (number (get_or xs i d)) (number (get_or xs j d)) hash (rw (read_mapped number xs i d, read_mapped number xs j d) at rises) from e)
      count (point_mapped number (λ k. k == hash) (drop start xs) count end')

-- ---- those of one name

less_unlike : (o : Ordering) → is_lt o ≡ true → is_eq o ≡ false
less_unlike Less e = refl
less_unlike Equal e = absurd (cc (e))
less_unlike Greater e = refl

tied_by : (o o' : Ordering) → o ≡ ordering_reverse o' → is_lt o ≡ false → is_lt o' ≡ false → is_eq o ≡ true
tied_by Less o' e from to = absurd (cc (from))
tied_by Equal o' e from to = refl
tied_by Greater Less e from to = absurd (cc (to))
tied_by Greater Equal e from to = absurd (cc (e))
tied_by Greater Greater e from to = absurd (cc (e))

tied : (a b : List ℕ) → is_lt (slice_cmp nat_cmp a b) ≡ false → is_lt (slice_cmp nat_cmp b a) ≡ false → bytes_eq a b ≡ true
tied a b from to = sym (is_eq-slice_cmp a b) ∙ tied_by (slice_cmp nat_cmp a b) (slice_cmp nat_cmp b a) (nat_list_cmp_total.antisymm a b) from to

module _ {S : Type 0} (name : S → List ℕ) (xs : List S) (q : List ℕ) (sorted : IsSorted (λ x y. slice_cmp nat_cmp (name x) (name y)) xs) where
  abbrev comes_before : S → Bool
  comes_before s = is_lt (slice_cmp nat_cmp (name s) q)

  other_name : (s : S) → comes_before s ≡ true → bytes_eq (name s) q ≡ false
  other_name s e = sym (is_eq-slice_cmp (name s) q) ∙ less_unlike (slice_cmp nat_cmp (name s) q) e

  name_between : (i j : ℕ) (d : S) → i ≤ j → j < length xs → comes_before (get_or xs i d) ≡ false → bytes_eq (name (get_or xs j d)) q ≡ true → bytes_eq (name (get_or xs i d)) q ≡ true
  name_between i j d le lt from e =
      let is : name (get_or xs j d) ≡ q = (bytes_eq-Decides (name (get_or xs j d)) q).0 e in
      let far : is_lt (slice_cmp nat_cmp (name (get_or xs j d)) (name (get_or xs i d))) ≡ false =
      sorted_far (λ x y. is_lt (slice_cmp nat_cmp (name x) (name y))) (ranks_by nat_list_cmp_total name) xs sorted i j d le lt in
      tied (name (get_or xs i d)) q from (rw is at far)

  pub text_first : (start : ℕ) → IsPartitionPoint (λ s. comes_before s ≡ true) (λ s. comes_before s ≡ false) xs start → IsPartitionedBy (λ s. bytes_eq (name s) q) (drop start xs)
  text_first start point = first_alike comes_before (λ s. bytes_eq (name s) q) xs start point other_name name_between

  pub of_one_text : (start count : ℕ) → IsPartitionPoint (λ s. comes_before s ≡ true) (λ s. comes_before s ≡ false) xs start
      → IsPartitionPoint (λ s. bytes_eq (name s) q ≡ true) (λ s. bytes_eq (name s) q ≡ false) (drop start xs) count → take count (drop start xs) ≡ filter (λ s. bytes_eq (name s) q) xs
  of_one_text start count point end = run comes_before (λ s. bytes_eq (name s) q) xs start point other_name name_between count end

  -- where the first and the last one have the name, all have it
  pub all_of_text : (d : S) → bytes_eq (name (get_or xs 0 d)) q ≡ true → bytes_eq (name (get_or xs (length xs - 1) d)) q ≡ true → 0 < length xs → xs ≡ filter (λ s. bytes_eq (name s) q) xs
  all_of_text d first last some = sym (keeps_all (λ s. bytes_eq (name s) q) xs (λ k e lt.
      let is : name (get_or xs 0 e) ≡ q = rw (get_or_default xs 0 e d some) ((bytes_eq-Decides (name (get_or xs 0 d)) q).0 first) in
      let far : is_lt (slice_cmp nat_cmp (name (get_or xs k e)) (name (get_or xs 0 e))) ≡ false =
      sorted_far (λ x y. is_lt (slice_cmp nat_cmp (name x) (name y))) (ranks_by nat_list_cmp_total name) xs sorted 0 k e (omega arith) lt in
      let there : length xs - 1 < length xs = omega (arith, some) in
      name_between k (length xs - 1) e (omega (arith, lt)) there (rw is at far) (rw (get_or_default xs (length xs - 1) e d there) last)))

-- ---- by number, then by name

first_le : (k l : ℕ) (a b : List ℕ) → is_lt (slice_cmp nat_cmp (l ∷ b) (k ∷ a)) ≡ false → k ≤ l
first_le k l a b e = elim (cases_lt l k) [
  | inl less ↦ absurd (cc (rw (below l k less) at e))
  | inr from ↦ from
]

second_le : (k l : ℕ) (a b : List ℕ) → l ≡ k → is_lt (slice_cmp nat_cmp (l ∷ b) (k ∷ a)) ≡ false → is_lt (slice_cmp nat_cmp b a) ≡ false
second_le k l a b equal e = rw (equal, same k) at e

one_number : (a b hash : ℕ) → (a == hash) ≡ true → (b == hash) ≡ true → b ≡ a
one_number a b hash e f = grind (arith, nat_tests)

module _ (name : DeclRef → List ℕ) (decls : List DeclRef) (sorted : IsSorted (λ r s. slice_cmp nat_cmp (with_hash (name r)) (with_hash (name s))) decls) where
  abbrev number : DeclRef → ℕ
  number r = hash_of (name r)

  abbrev goes_before : DeclRef → DeclRef → Bool
  goes_before r s = is_lt (slice_cmp nat_cmp (with_hash (name r)) (with_hash (name s)))

  pub numbers_rise : IsNonDecreasing (map number decls)
  numbers_rise i j d le lt =
      let nothing : DeclRef = record { file = 0; number = 0 } in
      let long : j < length decls = omega (arith, lt, length-map decls number) in
      let far = sorted_far goes_before (ranks_by nat_list_cmp_total (λ r. with_hash (name r))) decls sorted i j nothing le long in
      rw (get_or-map number decls i nothing d (omega (arith, le, long)), get_or-map number decls j nothing d long)
      (first_le (number (get_or decls i nothing)) (number (get_or decls j nothing)) (name (get_or decls i nothing)) (name (get_or decls j nothing)) far)

  pub names_rise : (hash : ℕ) → IsSorted (λ r s. slice_cmp nat_cmp (name r) (name s)) (filter (λ r. number r == hash) decls)
  names_rise hash k d from lt =
      let kept : List DeclRef = filter (λ r. number r == hash) decls in
      let up = IsSortedBy-filter goes_before (ranks_by nat_list_cmp_total (λ r. with_hash (name r))) (λ r. number r == hash) decls sorted in
      let passes = filter_passes (λ r. number r == hash) decls in
      second_le (number (get_or kept k d)) (number (get_or kept (k + 1) d)) (name (get_or kept k d)) (name (get_or kept (k + 1) d))
      (one_number (number (get_or kept k d)) (number (get_or kept (k + 1) d)) hash (passes k d (omega (arith, lt))) (passes (k + 1) d lt))
      (up k d from lt)

  -- those of one name are those of its number that have it
  pub of_number_and_name : (q : List ℕ) → filter (λ r. bytes_eq (name r) q) (filter (λ r. number r == hash_of q) decls) ≡ filter (λ r. bytes_eq (name r) q) decls
  of_number_and_name q = narrower (λ r. number r == hash_of q) (λ r. bytes_eq (name r) q) (λ r e.
      let is : name r ≡ q = (bytes_eq-Decides (name r) q).0 e in
      let equal : number r ≡ hash_of q = ap hash_of is in
      grind (arith, nat_tests)) decls

-- ---- how they are put in order

module _ {H : Type 0} (hash : H → ℕ) (decl : H → DeclRef) (name : DeclRef → List ℕ) where
  abbrev pub Fits : H → Type 0
  Fits h = hash h ≡ hash_of (name (decl h))

  numbers_are : (hs : List H) → All Fits hs → map hash hs ≡ map (λ r. hash_of (name r)) (map decl hs)
  numbers_are [] all = refl
  numbers_are (h ∷ hs) all = ap₂ (λ (k : ℕ) (ks : List ℕ). k ∷ ks) (All-head Fits h hs all) (numbers_are hs (All-tail Fits h hs all))

  abbrev first : H → H → Bool
  first g h = is_lt (slice_cmp nat_cmp (hash g ∷ name (decl g)) (hash h ∷ name (decl h)))

  into_ranks : (hs : List H) → All Fits hs → IsSortedBy first hs → IsSorted (λ r s. slice_cmp nat_cmp (with_hash (name r)) (with_hash (name s))) (map decl hs)
  into_ranks [] all sorted k d from lt = absurd (omega (arith, lt))
  into_ranks (h ∷ hs) all sorted k d from lt =
      let long : k + 1 < length (h ∷ hs) = rw (length-map (h ∷ hs) decl) at lt in
      let here : hash (get_or (h ∷ hs) k h) ≡ hash_of (name (decl (get_or (h ∷ hs) k h))) = all k h (omega (arith, long)) in
      let there : hash (get_or (h ∷ hs) (k + 1) h) ≡ hash_of (name (decl (get_or (h ∷ hs) (k + 1) h))) = all (k + 1) h long in
      rw (get_or-map decl (h ∷ hs) k h d (omega (arith, long)), get_or-map decl (h ∷ hs) (k + 1) h d long, ← here, ← there) (sorted k h from long)

module _ (name : DeclRef → List ℕ) where
  pub all_fit : (decls : List DeclRef) → All (Fits (λ (k : HashedDecl). k.hash) (λ k. k.decl) name) (map (hashed name) decls)
  all_fit [] = All-nil (Fits (λ (k : HashedDecl). k.hash) (λ k. k.decl) name)
  all_fit (r ∷ rs) = All-cons (Fits (λ (k : HashedDecl). k.hash) (λ k. k.decl) name) (hashed name r) (map (hashed name) rs) refl (all_fit rs)

  pub decls_back : (decls : List DeclRef) → map (λ (k : HashedDecl). k.decl) (map (hashed name) decls) ≡ decls
  decls_back [] = refl
  decls_back (r ∷ rs) = ap (λ (ss : List DeclRef). r ∷ ss) (decls_back rs)

  -- entries that fit, in order
  pub put_fitting : (gs : List HashedDecl) → All (Fits (λ (k : HashedDecl). k.hash) (λ k. k.decl) name) gs → IsSortedBy (is_before name) gs
      → AreByHash name (map (λ (k : HashedDecl). k.hash) gs) (map (λ (k : HashedDecl). k.decl) gs)
  put_fitting gs fits sorted = record {
    hashed = numbers_are (λ (k : HashedDecl). k.hash) (λ k. k.decl) name gs fits;
    ordered = into_ranks (λ (k : HashedDecl). k.hash) (λ k. k.decl) name gs fits sorted;
  }
