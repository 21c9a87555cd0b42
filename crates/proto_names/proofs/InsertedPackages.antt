-- The files that have packages, before and after another file came to them.
use Rattle.std.proofs.Common.{◌≡◌, ◌∙◌, sym, ap, ap₂, subst, refl, ◌<◌, ◌≤◌, ◌+◌, ℕ, zero, suc, List, [], ◌∷◌, ◌++◌, append_assoc, Bool, true, false, map, length, get_or, Option, Some, None, Result, Ok, Err, arith}
use Rattle.std.specs.Prelude.{All, OnOk}
use Rattle.std.specs.Cmp.{IsStrictWeakOrder}
use Rattle.std.specs.Cmp.Lexicographic.{slice_cmp}
use Rattle.std.specs.List.{enumerate_from, flat_map, insert}
use Rattle.std.specs.List.Sorted.{IsPartitionPoint, IsPermutation}
use Rattle.std.specs.Ordering.{nat_cmp, is_lt}
use Rattle.std.proofs.lemmas.Cmp.{nat_list_cmp_total}
use Rattle.std.proofs.lemmas.List.{get_or-map, length-map, map-append}
use Rattle.std.proofs.lemmas.List.Edits.{get_or-insert_at, length-insert}
use Rattle.std.proofs.lemmas.List.Elements.{All-append, All-cons, All-head, All-map, All-nil, All-tail, All-weaker}
use Rattle.std.proofs.lemmas.List.Sorted.{ranks_by, All-permutation, IsPermutation-append_comm, IsPermutation-append_left, IsPermutation-append_right, IsPermutation-insert, IsPermutation-map, IsPermutation-sym, IsPermutation-to_front, IsPermutation-trans}
use Rattle.proto_decls.specs.declared.fact.FileFacts.{FileFacts}
use Rattle.proto_decls.specs.declared.fact.PackageFact.{PackageFact}
use Rattle.proto_decls.specs.FullNames.{dot}
use Rattle.proto_decls.specs.declared.named_facts.NamedFacts.{NamedFacts}
use Rattle.proto_names.specs.declared.packages.PackagedFile.{PackagedFile}
use Rattle.proto_names.specs.Changes.{HadOtherPackages}
use Rattle.proto_names.specs.Files.{facts_at, no_facts}
use Rattle.proto_names.specs.Packages.{all_packaged, moved, packaged, AreByPackage, AreNoLonger, ArePackaged}
use Rattle.proto_names.proofs.Leaving.{inserted_sorted}
use Rattle.proto_names.proofs.MovedFiles.{before_it, from_it, nobody}

abbrev package_in : NamedFacts → Option PackageFact
package_in file = let facts = file.facts in facts.«package»

abbrev entry : ℕ × NamedFacts → List PackagedFile
entry e = packaged e.0 (package_in e.1)

-- a file from the place on gets one more, and one before it stays
one_moved : (k n : ℕ) (o : Option PackageFact) → k ≤ n → packaged (n + 1) o ≡ map (moved k) (packaged n o)
one_moved k n None le = refl
one_moved k n (Some p) le = ap (λ m. record { name = p.full_name ++ dot ∷ []; file = m } ∷ []) (sym (from_it k n le))

one_stays : (k n : ℕ) (o : Option PackageFact) → n < k → map (moved k) (packaged n o) ≡ packaged n o
one_stays k n None lt = refl
one_stays k n (Some p) lt = ap (λ m. record { name = p.full_name ++ dot ∷ []; file = m } ∷ []) (before_it k n lt)

all_moved : (k n : ℕ) (files : List NamedFacts) → k ≤ n → flat_map entry (enumerate_from (n + 1) files) ≡ map (moved k) (flat_map entry (enumerate_from n files))
all_moved k n [] le = refl
all_moved k n (x ∷ files) le =
    ap₂ (λ (ps qs : List PackagedFile). ps ++ qs) (one_moved k n (package_in x) le) (all_moved k (n + 1) files (omega (arith, le)))
    ∙ sym (map-append (moved k) (entry (n, x)) (flat_map entry (enumerate_from (n + 1) files)))

one_within : (n limit : ℕ) (o : Option PackageFact) → n < limit → All (λ p. p.file < limit) (packaged n o)
one_within n limit None lt = All-nil (λ p. p.file < limit)
one_within n limit (Some p) lt = All-cons (λ p. p.file < limit) (record { name = p.full_name ++ dot ∷ []; file = n }) [] lt (All-nil (λ p. p.file < limit))

within_from : (n : ℕ) (files : List NamedFacts) → All (λ p. p.file < n + length files) (flat_map entry (enumerate_from n files))
within_from n [] = All-nil (λ p. p.file < n + 0)
within_from n (x ∷ files) = All-append (λ p. p.file < n + length (x ∷ files)) (entry (n, x)) (flat_map entry (enumerate_from (n + 1) files))
    (one_within n (n + length (x ∷ files)) (package_in x) (omega arith))
    (All-weaker (λ p. p.file < n + 1 + length files) (λ p. p.file < n + length (x ∷ files)) (λ p lt. omega (arith, lt)) (flat_map entry (enumerate_from (n + 1) files)) (within_from (n + 1) files))

-- no number changes where all are in front
pub all_before : (k count : ℕ) (list : List PackagedFile) → count ≤ k + 1 → All (λ p. p.file + 1 < count) list → map (moved k) list ≡ list
all_before k count [] last small = refl
all_before k count (p ∷ list) last small =
    let lt = All-head (λ p. p.file + 1 < count) p list small in
    ap₂ (λ (m : ℕ) (ps : List PackagedFile). record { name = p.name; file = m } ∷ ps) (before_it k p.file (omega (arith, lt, last)))
    (all_before k count list last (All-tail (λ p. p.file + 1 < count) p list small))

-- those in front of the file that came stay, and those behind it get its place's new numbers
record MakesWay (k : ℕ) (own : List PackagedFile) (was is : List PackagedFile) : Type 0 where
  front : List PackagedFile
  rest : List PackagedFile
  stay : map (moved k) front ≡ front
  were : was ≡ front ++ rest
  are : is ≡ front ++ (own ++ map (moved k) rest)

way_from : (n k : ℕ) (files : List NamedFacts) (x : NamedFacts) → k ≤ length files
    → MakesWay (n + k) (packaged (n + k) (package_in x)) (flat_map entry (enumerate_from n files)) (flat_map entry (enumerate_from n (insert files k x)))
way_from n zero files x within =
    let here : n ≡ n + 0 = omega arith in
    let those : List PackagedFile = flat_map entry (enumerate_from n files) in
    subst (λ m. MakesWay m (packaged m (package_in x)) those (flat_map entry (enumerate_from n (x ∷ files)))) here (record {
      front = [];
      rest = those;
      stay = refl;
      were = refl;
      are = ap (λ ps. entry (n, x) ++ ps) (all_moved n n files (omega arith));
    })
way_from n (suc k) [] x within = absurd (omega (arith, within))
way_from n (suc k) (y ∷ files) x within =
    let next : n + 1 + k ≡ n + suc k = omega arith in
    let own : List PackagedFile = entry (n, y) in
    let those = way_from (n + 1) k files x (omega (arith, within)) in
    subst (λ m. MakesWay m (packaged m (package_in x)) (flat_map entry (enumerate_from n (y ∷ files))) (flat_map entry (enumerate_from n (y ∷ insert files k x)))) next (record {
      front = own ++ those.front;
      rest = those.rest;
      stay = map-append (moved (n + 1 + k)) own those.front ∙ ap₂ (λ (ps qs : List PackagedFile). ps ++ qs) (one_stays (n + 1 + k) n (package_in y) (omega arith)) those.stay;
      were = ap (λ ps. own ++ ps) those.were ∙ sym (append_assoc own those.front those.rest);
      are = ap (λ ps. own ++ ps) those.are ∙ sym (append_assoc own those.front (packaged (n + 1 + k) (package_in x) ++ map (moved (n + 1 + k)) those.rest));
    })

-- the file that came has its own package
own_package : (others : List NamedFacts) (k : ℕ) (file : NamedFacts) → k ≤ length others → (let facts = facts_at (insert others k file) k in facts.«package») ≡ package_in file
own_package others k file within =
    let long = length-insert others k file within in
    ap (λ (facts : FileFacts). facts.«package»)
    (get_or-map (λ (x : NamedFacts). x.facts) (insert others k file) k nobody no_facts (omega (arith, within, long)) ∙ ap (λ (x : NamedFacts). x.facts) (get_or-insert_at others k file nobody within))

module _ (files : List NamedFacts) (k : ℕ) (list : List PackagedFile) (had : HadOtherPackages files k list) where
  own : List PackagedFile
  own = packaged k (let facts = facts_at files k in facts.«package»)

  way : MakesWay k own (all_packaged had.others) (all_packaged files)
  unfolding own
  way =
      let came = had.came in
      let first : 0 + k ≡ k = omega arith in
      let there = subst (λ m. MakesWay m (packaged m (package_in came.file)) (all_packaged had.others) (all_packaged (insert had.others k came.file))) first (way_from 0 k had.others came.file came.within) in
      let same : package_in came.file ≡ (let facts = facts_at files k in facts.«package») = sym (own_package had.others k came.file came.within) ∙ ap (λ fs. let facts = facts_at fs k in facts.«package») (sym came.files_are) in
      subst (λ o. MakesWay k (packaged k o) (all_packaged had.others) (all_packaged files)) same
      (subst (λ fs. MakesWay k (packaged k (package_in came.file)) (all_packaged had.others) (all_packaged fs)) (sym came.files_are) there)

  -- the numbers of the other files are small
  pub are_small : All (λ p. p.file + 1 < length files) list
  are_small =
      let came = had.came in
      let long = length-insert had.others k came.file came.within in
      let same : length files ≡ length (insert had.others k came.file) = ap length came.files_are in
      All-permutation (λ p. p.file + 1 < length files) (all_packaged had.others) list had.were.all
      (All-weaker (λ p. p.file < 0 + length had.others) (λ p. p.file + 1 < length files) (λ p lt. omega (arith, lt, long, same)) (all_packaged had.others) (within_from 0 had.others))

  -- its package, read from the list of files
  pub package_is : (d : NamedFacts) → (let file = get_or files k d in package_in file) ≡ (let facts = facts_at files k in facts.«package»)
  package_is d =
      let came = had.came in
      let long = length-insert had.others k came.file came.within in
      let same : length files ≡ length (insert had.others k came.file) = ap length came.files_are in
      ap (λ (facts : FileFacts). facts.«package») (sym (get_or-map (λ (x : NamedFacts). x.facts) files k d no_facts (omega (arith, long, same, came.within))))

  -- those that had packages with their new numbers, and its own, if it has one
  all_are : IsPermutation (all_packaged files) (map (moved k) list ++ packaged k (let facts = facts_at files k in facts.«package»))
  unfolding own
  all_are =
      let w = way in
      let behind : List PackagedFile = map (moved k) w.rest in
      let others : IsPermutation (w.front ++ behind) (map (moved k) list) =
      subst (λ ps. IsPermutation ps (map (moved k) list)) (ap (map (moved k)) w.were ∙ map-append (moved k) w.front w.rest ∙ ap (λ ps. ps ++ behind) w.stay)
      (IsPermutation-map (moved k) (all_packaged had.others) list had.were.all) in
      let last : IsPermutation (w.front ++ (own ++ behind)) ((w.front ++ behind) ++ own) =
      subst (λ ps. IsPermutation (w.front ++ (own ++ behind)) ps) (sym (append_assoc w.front behind own))
      (IsPermutation-append_right w.front (own ++ behind) (behind ++ own) (IsPermutation-append_comm own behind)) in
      let both : IsPermutation (w.front ++ (own ++ behind)) (map (moved k) list ++ own) =
      IsPermutation-trans (w.front ++ (own ++ behind)) ((w.front ++ behind) ++ own) (map (moved k) list ++ own) last (IsPermutation-append_left own (w.front ++ behind) (map (moved k) list) others) in
      subst (λ ps. IsPermutation ps (map (moved k) list ++ own)) (sym w.are) both

  pub come : (now : List PackagedFile) → IsPermutation (map (moved k) list ++ packaged k (let facts = facts_at files k in facts.«package»)) now → AreByPackage now → ArePackaged files now
  come now same ordered = record {
    all = IsPermutation-trans (all_packaged files) (map (moved k) list ++ packaged k (let facts = facts_at files k in facts.«package»)) now all_are same;
    ordered = ordered;
  }

  -- none of the names is longer than the longest of the others' and its own
  pub no_longer : (before longest : ℕ) (now : List PackagedFile) → AreNoLonger before list → before ≤ longest → AreNoLonger longest (packaged k (let facts = facts_at files k in facts.«package»))
      → ArePackaged files now → AreNoLonger longest now
  no_longer before longest now others le its are =
      let facts_there = facts_at files k in
      let fits : PackagedFile → Type 0 = λ p. length p.name ≤ longest in
      let renumbered : All fits (map (moved k) list) =
      All-map fits (moved k) list (All-weaker (λ p. length p.name ≤ before) fits (λ p shorter. omega (arith, shorter, le)) list others) in
      All-permutation fits (all_packaged files) now are.all
      (All-permutation fits (map (moved k) list ++ packaged k facts_there.«package») (all_packaged files)
      (IsPermutation-sym (all_packaged files) (map (moved k) list ++ packaged k facts_there.«package») all_are)
      (All-append fits (map (moved k) list) (packaged k facts_there.«package») renumbered its))

-- what a call ensures in two clauses
pub both_so : {T E P Q R : Type 0} (r : Result T E) → OnOk r P → OnOk r Q → (P → Q → R) → OnOk r R
both_so (Ok v) p q f = f p q
both_so (Err e) p q f = tt

-- ---- their order

-- it speaks of names alone
pub moved_by_package : (k : ℕ) (list : List PackagedFile) → AreByPackage list → AreByPackage (map (moved k) list)
moved_by_package k list ordered n d from lt =
    let inside : n + 1 < length list = omega (arith, lt, length-map list (moved k)) in
    let first : n < length list = omega (arith, inside) in
    rw (get_or-map (moved k) list (n + 1) d d inside, get_or-map (moved k) list n d d first) (ordered n d from inside)

module _ (list : List PackagedFile) (one : PackagedFile) (place : ℕ) where
  abbrev is_before : PackagedFile → PackagedFile → Bool
  is_before a b = is_lt (slice_cmp nat_cmp a.name b.name)

  pub stays_by_package : AreByPackage list → place ≤ length list → IsPartitionPoint (λ p. is_before p one ≡ true) (λ p. is_before p one ≡ false) list place → AreByPackage (insert list place one)
  stays_by_package ordered within between =
      let weak : IsStrictWeakOrder is_before = ranks_by nat_list_cmp_total (λ (p : PackagedFile). p.name) in
      inserted_sorted is_before weak list ordered place one within
      (λ n d last. weak.one_way (get_or list n d) one (between.0 n d (omega arith) (omega (arith, last))))
      (λ d lt. between.1 place d (omega arith) lt)

  pub is_there : IsPermutation (list ++ one ∷ []) (insert list place one)
  is_there = IsPermutation-trans (list ++ one ∷ []) (one ∷ list) (insert list place one) (IsPermutation-to_front list one) (IsPermutation-insert list place one)
