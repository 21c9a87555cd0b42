-- Declarations by file and number: two lists in that order that are the same, in any order, are one list.
use Rattle.std.proofs.Common.{◌≡◌, ◌∙◌, sym, ap, ap₂, subst, refl, inl, inr, ◌&&◌, ◌==◌, ◌+◌, ◌<◌, ◌≤◌, ℕ, suc, List, [], ◌∷◌, Bool, true, false, not, map, filter, length, get_or, bytes_eq, arith}
use Rattle.std.specs.Prelude.{All, ◌⊎◌}
use Rattle.std.specs.List.{AllPairs}
use Rattle.std.specs.Cmp.{IsTotalOrder}
use Rattle.std.specs.Cmp.Lexicographic.{slice_cmp}
use Rattle.std.specs.List.Sorted.{IsSorted, IsSortedBy}
use Rattle.std.specs.Ordering.{is_lt, nat_cmp}
use Rattle.std.specs.declared.cmp.Ordering.TheVariants.{Equal}
use Rattle.std.proofs.lemmas.Bool.{cases_Bool, cases_lt}
use Rattle.std.proofs.lemmas.Bool.Decides.{nat_tests}
use Rattle.std.proofs.lemmas.Cmp.{nat_cmp_total, nat_list_cmp_total, on_total, then_total, tied_itself}
use Rattle.std.proofs.lemmas.List.{get_or-map, length-map}
use Rattle.std.proofs.lemmas.List.Elements.{All-head, All-tail, filter_passes}
use Rattle.std.proofs.lemmas.List.Kept.{IsSortedBy-filter}
use Rattle.std.proofs.lemmas.List.Sorted.{ranks_by, sorted_far}
use Rattle.std.proofs.lemmas.Slice.Eq.{bytes_eq-Decides}
use Rattle.proto_decls.specs.declared.named_facts.NamedFacts.{NamedFacts}
use Rattle.proto_names.specs.declared.hashed.HashedDecl.{HashedDecl}
use Rattle.proto_names.specs.declared.hashed.HashedDecls.{HashedDecls}
use Rattle.proto_names.specs.declared.decl_ref.DeclRef.{DeclRef}
use Rattle.proto_names.specs.Files.{all_named}
use Rattle.proto_names.specs.Hashed.{hashed, AreByHash}
use Rattle.proto_decls.specs.FullNames.{hash_of}
use Rattle.proto_names.specs.Tables.{by_name, by_place, AreInOrder, AreRearranged}
use Rattle.proto_names.proofs.ByLast.{first_of_two, keeps_fits, second_of_two}
use Rattle.proto_names.proofs.Hashes.{all_fit, decls_back, is_before, keeps_mapped, put_fitting, Fits}
use Rattle.proto_names.proofs.Order.{named_rise, Earlier}
use Rattle.proto_names.proofs.Same.{fits_so, fitting, same_all, same_kept, same_mapped}
use Rattle.proto_names.proofs.Search.{below, same}

pub places_total : IsTotalOrder by_place
places_total = then_total (on_total (λ (r : DeclRef). r.file) nat_cmp_total) (on_total (λ (r : DeclRef). r.number) nat_cmp_total)

pub names_total : (name : DeclRef → List ℕ) → IsTotalOrder (by_name name)
names_total name = then_total (on_total (λ (k : HashedDecl). k.hash ∷ name k.decl) nat_list_cmp_total) (on_total (λ (k : HashedDecl). k.decl) places_total)

-- the second doesn't come before the first
abbrev pub AtMost : DeclRef → DeclRef → Type 0
AtMost r s = (r.file < s.file) ⊎ ((r.file ≡ s.file) × (r.number ≤ s.number))

abbrev is_at : DeclRef → DeclRef → Bool
is_at r s = (r.file == s.file) && (r.number == s.number)

equal_numbers : (a b : ℕ) → (a == b) ≡ true → a ≡ b
equal_numbers a b e = grind (arith, nat_tests)

itself : (a : ℕ) → (a == a) ≡ true
itself a = grind (arith, nat_tests)

both_hold : (a b : Bool) → (a && b) ≡ true → (a ≡ true) × (b ≡ true)
both_hold true b e = (refl, e)
both_hold false b e = absurd (cc (e))

same_place : (r s : DeclRef) → is_at r s ≡ true → r ≡ s
same_place r s e =
    let both = both_hold (r.file == s.file) (r.number == s.number) e in
    ap₂ (λ (f n : ℕ). record { file = f; number = n }) (equal_numbers r.file s.file both.0) (equal_numbers r.number s.number both.1)

at_itself : (r : DeclRef) → is_at r r ≡ true
at_itself r = rw (itself r.file, itself r.number) refl

both_ways : (r s : DeclRef) → AtMost r s → AtMost s r → r ≡ s
both_ways r s (inl lt) (inl gt) = absurd (omega (arith, lt, gt))
both_ways r s (inl lt) (inr equal) = absurd (omega (arith, lt, equal.0))
both_ways r s (inr equal) (inl gt) = absurd (omega (arith, gt, equal.0))
both_ways r s (inr equal) (inr back) = ap₂ (λ (f n : ℕ). record { file = f; number = n }) equal.0 (omega (arith, equal.1, back.1))

-- ---- lists in the order

module _ (R : DeclRef → DeclRef → Type 0) where
  pairs_first : (r : DeclRef) (rs : List DeclRef) → AllPairs R (r ∷ rs) → All (R r) rs
  pairs_first r rs up k d lt = up 0 (suc k) d (omega arith) (omega (arith, lt))

  pairs_rest : (r : DeclRef) (rs : List DeclRef) → AllPairs R (r ∷ rs) → AllPairs R rs
  pairs_rest r rs up i j d lt within = up (suc i) (suc j) d (omega (arith, lt)) (omega (arith, within))

abbrev count : DeclRef → List DeclRef → ℕ
count r rs = length (filter (is_at r) rs)

-- one that is among them isn't below what none of them is below
found_above : (s r : DeclRef) (rs : List DeclRef) → All (AtMost s) rs → 0 < count r rs → AtMost s r
found_above s r [] all some = absurd (omega (arith, some))
found_above s r (t ∷ ts) all some = elim (cases_Bool (is_at r t)) [
  | inl here ↦ subst (AtMost s) (sym (same_place r t here)) (All-head (AtMost s) t ts all)
  | inr other ↦ found_above s r ts (All-tail (AtMost s) t ts all) (rw other at some)
]

at_front : (r : DeclRef) (rs : List DeclRef) → 0 < count r (r ∷ rs)
at_front r rs = rw (at_itself r) (omega arith)

-- the first of the others isn't behind one of them
front_most : (r s : DeclRef) (ss : List DeclRef) → AllPairs AtMost (s ∷ ss) → 0 < count r (s ∷ ss) → AtMost s r
front_most r s ss up some = elim (cases_Bool (is_at r s)) [
  | inl here ↦ inr (ap (λ t. t.file) (sym (same_place r s here)), let e : s.number ≡ r.number = ap (λ t. t.number) (sym (same_place r s here)) in omega (arith, e))
  | inr other ↦ found_above s r ss (pairs_first AtMost s ss up) (rw other at some)
]

less_one : (r s : DeclRef) (rs ss : List DeclRef) → count r (s ∷ rs) ≡ count r (s ∷ ss) → count r rs ≡ count r ss
less_one r s rs ss same = elim (cases_Bool (is_at r s)) [
  | inl here ↦ let more : suc (count r rs) ≡ suc (count r ss) = rw here at same in omega (arith, more)
  | inr other ↦ rw other at same
]

pub one_list : (rs ss : List DeclRef) → AllPairs AtMost rs → AllPairs AtMost ss → ((r : DeclRef) → count r rs ≡ count r ss) → rs ≡ ss
one_list [] [] up down same = refl
one_list [] (s ∷ ss) up down same = absurd (let some = at_front s ss in omega (arith, some, same s))
one_list (r ∷ rs) [] up down same = absurd (let some = at_front r rs in omega (arith, some, same r))
one_list (r ∷ rs) (s ∷ ss) up down same =
    let there : 0 < count r (s ∷ ss) = (let some = at_front r rs in omega (arith, some, same r)) in
    let back : 0 < count s (r ∷ rs) = (let some = at_front s ss in omega (arith, some, same s)) in
    let is : r ≡ s = both_ways r s (front_most s r rs up back) (front_most r s ss down there) in
    ap₂ (λ (t : DeclRef) (ts : List DeclRef). t ∷ ts) is
    (one_list rs ss (pairs_rest AtMost r rs up) (pairs_rest AtMost s ss down) (λ t. less_one t s rs ss (subst (λ u. count t (u ∷ rs) ≡ count t (s ∷ ss)) is (same t))))

-- ---- of what is sorted

at_most_from : (r s : DeclRef) → is_lt (by_place s r) ≡ false → AtMost r s
at_most_from r s e = elim (cases_lt r.file s.file) [
  | inl before ↦ inl before
  | inr from ↦ elim (cases_lt s.file r.file) [
    | inl after ↦ absurd (cc (rw (below s.file r.file after) at e))
    | inr up_to ↦
        let equal : r.file ≡ s.file = omega (arith, from, up_to) in
        let tied : nat_cmp s.file r.file ≡ Equal = ap (nat_cmp s.file) equal ∙ same s.file in
        inr (
          equal,
          elim (cases_lt s.number r.number) [
            | inl less ↦ absurd (cc (rw (tied, below s.number r.number less) at e))
            | inr at_least ↦ at_least
          ],
        )
  ]
]

module _ (name : DeclRef → List ℕ) where
  abbrev goes_before : HashedDecl → HashedDecl → Bool
  goes_before a b = is_lt (by_name name a b)

  abbrev name_of : HashedDecl → List ℕ
  name_of k = name k.decl

  abbrev place_of : HashedDecl → DeclRef
  place_of k = k.decl

  pub by_text_first : (gs : List HashedDecl) → IsSorted (by_name name) gs → IsSortedBy (is_before name) gs
  by_text_first gs sorted k d from lt =
      let a = get_or gs (k + 1) d in
      let b = get_or gs k d in
      first_of_two (slice_cmp nat_cmp (a.hash ∷ name a.decl) (b.hash ∷ name b.decl)) (by_place a.decl b.decl) (sorted k d from lt)

  module _ (gs : List HashedDecl) (sorted : IsSorted (by_name name) gs) (fits : All (Fits (λ (k : HashedDecl). k.hash) (λ k. k.decl) name) gs) (q : List ℕ) where
    abbrev has_it : HashedDecl → Bool
    has_it k = bytes_eq (name k.decl) q

    abbrev kept : List HashedDecl
    kept = filter has_it gs

    kept_sorted : IsSortedBy goes_before (filter has_it gs)
    kept_sorted = IsSortedBy-filter goes_before (ranks_by (names_total name) (λ k. k)) has_it gs sorted

    named_so : (k : ℕ) (d : HashedDecl) → k < length (filter has_it gs) → name_of (get_or (filter has_it gs) k d) ≡ q
    named_so k d lt = (bytes_eq-Decides (name_of (get_or (filter has_it gs) k d)) q).0 (filter_passes has_it gs k d lt)

    hashed_so : (k : ℕ) (d : HashedDecl) → k < length (filter has_it gs) → (let h = get_or (filter has_it gs) k d in h.hash) ≡ hash_of q
    hashed_so k d lt = keeps_fits (Fits (λ (k : HashedDecl). k.hash) (λ k. k.decl) name) has_it gs fits k d lt ∙ ap hash_of (named_so k d lt)

    kept_far : (i j : ℕ) (d : HashedDecl) → i < j → j < length (filter has_it gs) → AtMost (place_of (get_or (filter has_it gs) i d)) (place_of (get_or (filter has_it gs) j d))
    kept_far i j d lt within =
        let a = get_or (filter has_it gs) j d in
        let b = get_or (filter has_it gs) i d in
        let far = sorted_far goes_before (ranks_by (names_total name) (λ k. k)) (filter has_it gs) kept_sorted i j d (omega (arith, lt)) within in
        let equal : a.hash ∷ name a.decl ≡ b.hash ∷ name b.decl =
        ap₂ (λ (h : ℕ) (l : List ℕ). h ∷ l) (hashed_so j d within ∙ sym (hashed_so i d (omega (arith, lt, within)))) (named_so j d within ∙ sym (named_so i d (omega (arith, lt, within)))) in
        let tied : slice_cmp nat_cmp (a.hash ∷ name a.decl) (b.hash ∷ name b.decl) ≡ Equal =
        ap (λ l. slice_cmp nat_cmp l (b.hash ∷ name b.decl)) equal ∙ tied_itself nat_list_cmp_total (b.hash ∷ name b.decl) in
        at_most_from b.decl a.decl (second_of_two (slice_cmp nat_cmp (a.hash ∷ name a.decl) (b.hash ∷ name b.decl)) (by_place a.decl b.decl) tied far)

    into_places : (hs : List HashedDecl) → ((i j : ℕ) (d : HashedDecl) → i < j → j < length hs → AtMost (place_of (get_or hs i d)) (place_of (get_or hs j d))) → AllPairs AtMost (map place_of hs)
    into_places [] pairs i j d lt within = absurd (omega (arith, within))
    into_places (h ∷ hs) pairs i j d lt within =
        let long : j < length (h ∷ hs) = rw (length-map (h ∷ hs) place_of) at within in
        rw (get_or-map place_of (h ∷ hs) i h d (omega (arith, lt, long)), get_or-map place_of (h ∷ hs) j h d long) (pairs i j h lt long)

    kept_places : AllPairs AtMost (filter (λ r. bytes_eq (name r) q) (map place_of gs))
    kept_places = subst (AllPairs AtMost) (sym (keeps_mapped (λ r. bytes_eq (name r) q) place_of gs)) (into_places (filter has_it gs) kept_far)

    -- those of a name stand in the order of the declarations
    pub of_one_name : (decls : List DeclRef) → AllPairs AtMost (filter (λ r. bytes_eq (name r) q) decls) → AreRearranged (map (hashed name) decls) gs
        → filter (λ r. bytes_eq (name r) q) (map place_of gs) ≡ filter (λ r. bytes_eq (name r) q) decls
    of_one_name decls up same =
        let counts : (p : DeclRef → Bool) → length (filter p (map place_of gs)) ≡ length (filter p decls) =
        λ p. sym (same_mapped place_of (map (hashed name) decls) gs same p) ∙ ap (λ ds. length (filter p ds)) (decls_back name decls) in
        one_list (filter (λ r. bytes_eq (name r) q) (map place_of gs)) (filter (λ r. bytes_eq (name r) q) decls) kept_places up
        (λ r. same_kept (map place_of gs) decls counts (λ s. bytes_eq (name s) q) (is_at r))

  pub all_fits : (decls : List DeclRef) (gs : List HashedDecl) → AreRearranged (map (hashed name) decls) gs → All (Fits (λ (k : HashedDecl). k.hash) (λ k. k.decl) name) gs
  all_fits decls gs same =
      same_all (Fits (λ (k : HashedDecl). k.hash) (λ k. k.decl) name) (λ k. not (k.hash == hash_of (name k.decl)))
      (λ k e. fitting k.hash (hash_of (name k.decl)) e) (λ k e. fits_so k.hash (hash_of (name k.decl)) e)
      (map (hashed name) decls) gs same (all_fit name decls)

  module _ (decls : List DeclRef) (found : HashedDecls) (are : AreInOrder (by_name name) (map (hashed name) decls) found) where
    -- found by their hashes
    pub names_by_hash : AreByHash name found.hashes.items found.decls.items
    names_by_hash = rw (are.hashes_are, are.decls_are) (put_fitting name are.sorted (all_fits decls are.sorted are.same) (by_text_first are.sorted are.ordered))

    -- those of one name are these declarations of that name, in their order
    pub names_each : (q : List ℕ) → AllPairs AtMost (filter (λ r. bytes_eq (name r) q) decls) → filter (λ r. bytes_eq (name r) q) found.decls.items ≡ filter (λ r. bytes_eq (name r) q) decls
    names_each q up = rw are.decls_are (of_one_name are.sorted are.ordered (all_fits decls are.sorted are.same) q decls up are.same)

earlier_at_most : (r s : DeclRef) → Earlier r s → AtMost r s
earlier_at_most r s (inl lt) = inl lt
earlier_at_most r s (inr both) = inr (both.0, omega (arith, both.1))

-- the declarations of a name are in their order
pub named_up : (files : List NamedFacts) (q : List ℕ) → AllPairs AtMost (all_named files q)
named_up files q i j d lt within = earlier_at_most (get_or (all_named files q) i d) (get_or (all_named files q) j d) (named_rise files q i j d lt within)
