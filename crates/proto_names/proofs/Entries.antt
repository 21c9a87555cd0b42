-- Entries for the names of files and for what may settle a scope in them, of some files and of others that follow.
use Rattle.std.proofs.Common.{◌≡◌, ◌∙◌, sym, ap, ap₂, refl, inl, inr, ◌<◌, ◌≤◌, ◌+◌, ◌-◌, ℕ, List, [], ◌∷◌, ◌++◌, append-nil, zero, suc, Bool, false, not, map, filter, take, drop, get_or, set, length, arith}
use Rattle.std.specs.Prelude.{All, nat_lt}
use Rattle.std.specs.List.{enumerate_from, flat_map}
use Rattle.std.specs.List.Sorted.{IsSorted}
use Rattle.std.specs.Ordering.{is_lt}
use Rattle.std.specs.declared.cmp.Ordering.{Ordering}
use Rattle.std.proofs.Math.Path.{fun_ext}
use Rattle.std.proofs.lemmas.Bool.{cases_Bool}
use Rattle.std.proofs.lemmas.Bool.Decides.{nat_tests}
use Rattle.std.proofs.lemmas.Grind.{flat_map-append}
use Rattle.std.proofs.lemmas.List.{drop-set-lt, drop_more, get_or-append-add, get_or-drop, get_or_append_left, length-drop, length-map, length-take-le, map-append, take_more, take_more_set}
use Rattle.std.proofs.lemmas.List.Elements.{All-append, All-cons, All-head, All-map, All-nil, All-tail, All-weaker, filter-append}
use Rattle.std.proofs.lemmas.Simd.{map-map}
use Rattle.proto_decls.specs.declared.fact.Decl.{Decl}
use Rattle.proto_decls.specs.declared.named_facts.NamedFacts.{NamedFacts}
use Rattle.proto_names.specs.declared.hashed.HashedDecl.{HashedDecl}
use Rattle.proto_names.specs.declared.decl_ref.DeclRef.{DeclRef}
use Rattle.proto_names.specs.Entries.{all_entries, entries_of, hashes_of, renumbered, with_renumbered, AreEntriesOf}
use Rattle.proto_names.specs.Files.{all_decls, decl_at, decls_at, facts_at, no_decl, no_facts, refs_of, name_at}
use Rattle.proto_names.specs.Hashed.{hashed}
use Rattle.proto_decls.specs.FullNames.{hash_of, last_of}
use Rattle.proto_names.specs.Holders.{is_holder}
use Rattle.proto_names.specs.Tables.{by_name, by_scope, holder_entries, name_entries, AreRearranged}
use Rattle.proto_names.proofs.ByLast.{keeps_fits}
use Rattle.proto_names.proofs.Hashes.{keeps_mapped}
use Rattle.proto_names.proofs.Order.{numbered, refs, refs_from, IsFrom}
use Rattle.proto_names.proofs.Same.{same_all, same_both, same_mapped}
use Rattle.proto_names.proofs.Search.{same}

-- ---- all declarations

enumerate_both : {X : Type 0} (n : ℕ) (xs ys : List X) → enumerate_from n (xs ++ ys) ≡ enumerate_from n xs ++ enumerate_from (n + length xs) ys
enumerate_both n [] ys = let e : n ≡ n + 0 = omega arith in ap (λ k. enumerate_from k ys) e
enumerate_both n (x ∷ xs) ys =
    let e : n + 1 + length xs ≡ n + length (x ∷ xs) = omega arith in
    ap (λ l. (n, x) ∷ l) (enumerate_both (n + 1) xs ys ∙ ap (λ k. enumerate_from (n + 1) xs ++ enumerate_from k ys) e)

pub decls_behind : (n m : ℕ) (files : List NamedFacts) → flat_map refs (enumerate_from (n + m) files) ≡ map (renumbered n) (flat_map refs (enumerate_from m files))
decls_behind n m [] = refl
decls_behind n m (f ∷ fs) =
    let next : n + m + 1 ≡ n + (m + 1) = omega arith in
    let decls : List Decl = let facts = f.facts in facts.decls in
    ap₂ (λ (a b : List DeclRef). a ++ b) (sym (map-map (renumbered n) (numbered m) (enumerate_from 0 decls)))
    (ap (λ k. flat_map refs (enumerate_from k fs)) next ∙ decls_behind n (m + 1) fs)
    ∙ sym (map-append (renumbered n) (refs (m, f)) (flat_map refs (enumerate_from (m + 1) fs)))

pub decls_joined : (xs ys : List NamedFacts) → all_decls (xs ++ ys) ≡ all_decls xs ++ map (renumbered (length xs)) (all_decls ys)
decls_joined xs ys =
    let place : 0 + length xs ≡ length xs + 0 = omega arith in
    ap (flat_map refs) (enumerate_both 0 xs ys)
    ∙ flat_map-append refs (enumerate_from 0 xs) (enumerate_from (0 + length xs) ys)
    ∙ ap (λ (ds : List DeclRef). all_decls xs ++ ds) (ap (λ k. flat_map refs (enumerate_from k ys)) place ∙ decls_behind (length xs) 0 ys)

within_from : (n : ℕ) (files : List NamedFacts) → All (λ r. r.file < n + length files) (flat_map refs (enumerate_from n files))
within_from n [] = All-nil (λ r. r.file < n + 0)
within_from n (f ∷ fs) = All-append (λ r. r.file < n + length (f ∷ fs)) (refs (n, f)) (flat_map refs (enumerate_from (n + 1) fs))
    (All-weaker (IsFrom n 0) (λ r. r.file < n + length (f ∷ fs)) (λ r there. omega (arith, there.0)) (refs (n, f)) (refs_from n 0 (let facts = f.facts in facts.decls)))
    (All-weaker (λ r. r.file < n + 1 + length fs) (λ r. r.file < n + length (f ∷ fs)) (λ r lt. omega (arith, lt)) (flat_map refs (enumerate_from (n + 1) fs)) (within_from (n + 1) fs))

pub all_within : (files : List NamedFacts) → All (λ r. r.file < length files) (all_decls files)
all_within files = All-weaker (λ r. r.file < 0 + length files) (λ r. r.file < length files) (λ r lt. omega (arith, lt)) (all_decls files) (within_from 0 files)

-- ---- what they are

module _ (xs ys : List NamedFacts) where
  facts_front : (f : ℕ) → f < length xs → facts_at (xs ++ ys) f ≡ facts_at xs f
  facts_front f lt =
      ap (λ l. get_or l f no_facts) (map-append (λ (file : NamedFacts). file.facts) xs ys)
      ∙ get_or_append_left (map (λ (file : NamedFacts). file.facts) xs) (map (λ (file : NamedFacts). file.facts) ys) no_facts f (omega (arith, lt, length-map xs (λ (file : NamedFacts). file.facts)))

  facts_behind : (f : ℕ) → facts_at (xs ++ ys) (length xs + f) ≡ facts_at ys f
  facts_behind f =
      let long : length xs + f ≡ length (map (λ (file : NamedFacts). file.facts) xs) + f = omega (arith, length-map xs (λ (file : NamedFacts). file.facts)) in
      ap (λ l. get_or l (length xs + f) no_facts) (map-append (λ (file : NamedFacts). file.facts) xs ys)
      ∙ ap (λ k. get_or (map (λ (file : NamedFacts). file.facts) xs ++ map (λ (file : NamedFacts). file.facts) ys) k no_facts) long
      ∙ get_or-append-add (map (λ (file : NamedFacts). file.facts) xs) (map (λ (file : NamedFacts). file.facts) ys) f no_facts

  pub decl_front : (r : DeclRef) → r.file < length xs → decl_at xs r ≡ decl_at (xs ++ ys) r
  decl_front r lt = sym (ap (λ facts. get_or facts.decls r.number no_decl) (facts_front r.file lt))

  pub decl_behind : (r : DeclRef) → decl_at (xs ++ ys) (renumbered (length xs) r) ≡ decl_at ys r
  decl_behind r = ap (λ facts. get_or facts.decls r.number no_decl) (facts_behind r.file)

-- ---- runs of entries

abbrev decl_of : HashedDecl → DeclRef
decl_of k = k.decl

-- in another order that says the same of each pair of them
pub sorted_alike : (order order' : HashedDecl → HashedDecl → Ordering) (P : HashedDecl → Type 0) → ((a b : HashedDecl) → P a → P b → order a b ≡ order' a b)
    → (es : List HashedDecl) → All P es → IsSorted order es → IsSorted order' es
sorted_alike order order' P alike es all sorted k d from lt =
    ap is_lt (sym (alike (get_or es (k + 1) d) (get_or es k d) (all (k + 1) d lt) (all k d (omega (arith, lt))))) ∙ sorted k d from lt

all_front : (P : HashedDecl → Type 0) (xs ys : List HashedDecl) → All P (xs ++ ys) → All P xs
all_front P [] ys all = All-nil P
all_front P (x ∷ xs) ys all = All-cons P x xs (All-head P x (xs ++ ys) all) (all_front P xs ys (All-tail P x (xs ++ ys) all))

all_back : (P : HashedDecl → Type 0) (xs ys : List HashedDecl) → All P (xs ++ ys) → All P ys
all_back P [] ys all = all
all_back P (x ∷ xs) ys all = all_back P xs ys (All-tail P x (xs ++ ys) all)

-- what holds of each run's elements
in_runs : (P : HashedDecl → Type 0) (runs : List (List HashedDecl)) → All P (flat_map (λ run. run) runs) → All (λ run. All P run) runs
in_runs P [] all = All-nil (λ run. All P run)
in_runs P (run ∷ runs) all =
    All-cons (λ run. All P run) run runs (all_front P run (flat_map (λ run. run) runs) all) (in_runs P runs (all_back P run (flat_map (λ run. run) runs) all))

runs_moved : (n : ℕ) (runs : List (List HashedDecl)) → flat_map (λ run. run) (map (λ run. map (with_renumbered n) run) runs) ≡ map (with_renumbered n) (flat_map (λ run. run) runs)
runs_moved n [] = refl
runs_moved n (run ∷ runs) = ap (λ (es : List HashedDecl). map (with_renumbered n) run ++ es) (runs_moved n runs) ∙ sym (map-append (with_renumbered n) run (flat_map (λ run. run) runs))

all_of_two : (P Q R : List HashedDecl → Type 0) → ((run : List HashedDecl) → P run → Q run → R run) → (runs : List (List HashedDecl)) → All P runs → All Q runs → All R runs
all_of_two P Q R step runs ps qs k d lt = step (get_or runs k d) (ps k d lt) (qs k d lt)

-- ---- the orders

module _ (name name' : DeclRef → List ℕ) where
  pub names_alike : (a b : HashedDecl) → name (decl_of a) ≡ name' (decl_of a) → name (decl_of b) ≡ name' (decl_of b) → by_name name a b ≡ by_name name' a b
  names_alike a b e f = rw (e, f) refl

  pub scopes_alike : (a b : HashedDecl) → name (decl_of a) ≡ name' (decl_of a) → name (decl_of b) ≡ name' (decl_of b) → by_scope name a b ≡ by_scope name' a b
  scopes_alike a b e f = rw (e, f) refl

-- ---- the entries

module _ (text text' : DeclRef → List ℕ) (holder holder' : DeclRef → Bool) where
  pub holders_alike : (ds : List DeclRef) → All (λ r. (text r ≡ text' r) × (holder r ≡ holder' r)) ds → map (hashed text) (filter holder ds) ≡ map (hashed text') (filter holder' ds)
  holders_alike [] same = refl
  holders_alike (r ∷ rs) same =
      let first = All-head (λ r. (text r ≡ text' r) × (holder r ≡ holder' r)) r rs same in
      let rest = holders_alike rs (All-tail (λ r. (text r ≡ text' r) × (holder r ≡ holder' r)) r rs same) in
      elim (cases_Bool (holder' r)) [
        | inl holds ↦ rw (first.1, holds, rest, first.0) refl
        | inr fails ↦ rw (first.1, fails) rest
      ]

  holders_moved : (n : ℕ) → ((r : DeclRef) → text' (renumbered n r) ≡ text r) → ((r : DeclRef) → holder' (renumbered n r) ≡ holder r)
      → (ds : List DeclRef) → map (with_renumbered n) (map (hashed text) (filter holder ds)) ≡ map (hashed text') (filter holder' (map (renumbered n) ds))
  holders_moved n texts holders ds =
      map-map (with_renumbered n) (hashed text) (filter holder ds)
      ∙ ap₂ (λ (f : DeclRef → HashedDecl) (p : DeclRef → Bool). map f (filter p ds)) (fun_ext (λ r. ap (λ t. with_renumbered n (record { hash = hash_of t; decl = r })) (sym (texts r)))) (fun_ext (λ r. sym (holders r)))
      ∙ sym (map-map (hashed text') (renumbered n) (filter (λ r. holder' (renumbered n r)) ds))
      ∙ ap (map (hashed text')) (sym (keeps_mapped holder' (renumbered n) ds))

abbrev lasts : List NamedFacts → DeclRef → List ℕ
lasts files r = last_of (name_at files r)

abbrev holds : List NamedFacts → DeclRef → Bool
holds files r = is_holder (let d = decl_at files r in d.kind)

pub map_alike : (name name' : DeclRef → List ℕ) (ds : List DeclRef) → All (λ r. name r ≡ name' r) ds → map (hashed name) ds ≡ map (hashed name') ds
map_alike name name' [] same_are = refl
map_alike name name' (r ∷ rs) same_are =
    ap₂ (λ (t : List ℕ) (es : List HashedDecl). record { hash = hash_of t; decl = r } ∷ es) (All-head (λ r. name r ≡ name' r) r rs same_are)
    (map_alike name name' rs (All-tail (λ r. name r ≡ name' r) r rs same_are))

-- of some files and of others behind them
module _ (xs ys : List NamedFacts) where
  name_front : (r : DeclRef) → r.file < length xs → name_at xs r ≡ name_at (xs ++ ys) r
  name_front r lt = ap (λ d. d.full_name) (decl_front xs ys r lt)

  name_behind : (r : DeclRef) → name_at (xs ++ ys) (renumbered (length xs) r) ≡ name_at ys r
  name_behind r = ap (λ d. d.full_name) (decl_behind xs ys r)

  holders_both : holder_entries xs ++ map (with_renumbered (length xs)) (holder_entries ys) ≡ holder_entries (xs ++ ys)
  holders_both =
      ap₂ (λ (a b : List HashedDecl). a ++ b)
      (holders_alike (lasts xs) (lasts (xs ++ ys)) (holds xs) (holds (xs ++ ys)) (all_decls xs)
      (λ k d lt. let there = all_within xs k d lt in (ap last_of (name_front (get_or (all_decls xs) k d) there), ap (λ e. is_holder e.kind) (decl_front xs ys (get_or (all_decls xs) k d) there))))
      (holders_moved (lasts ys) (lasts (xs ++ ys)) (holds ys) (holds (xs ++ ys)) (length xs) (λ r. ap last_of (name_behind r)) (λ r. ap (λ e. is_holder e.kind) (decl_behind xs ys r)) (all_decls ys))
      ∙ sym (map-append (hashed (lasts (xs ++ ys))) (filter (holds (xs ++ ys)) (all_decls xs)) (filter (holds (xs ++ ys)) (map (renumbered (length xs)) (all_decls ys))))
      ∙ ap (map (hashed (lasts (xs ++ ys)))) (sym (filter-append (holds (xs ++ ys)) (all_decls xs) (map (renumbered (length xs)) (all_decls ys))))
      ∙ ap (λ ds. map (hashed (lasts (xs ++ ys))) (filter (holds (xs ++ ys)) ds)) (sym (decls_joined xs ys))

lower_so : (a b : ℕ) → not (nat_lt a b) ≡ false → a < b
lower_so a b e = grind (arith, nat_tests)

lower_is : (a b : ℕ) → a < b → not (nat_lt a b) ≡ false
lower_is a b lt = grind (arith, nat_tests)

abbrev pub IsWithin : List NamedFacts → HashedDecl → Type 0
IsWithin files k = (let r = decl_of k in r.file) < length files

-- each entry's file is one of the files
entries_within : (files : List NamedFacts) (text : DeclRef → List ℕ) (p : DeclRef → Bool) → All (IsWithin files) (map (hashed text) (filter p (all_decls files)))
entries_within files text p = All-map (IsWithin files) (hashed text) (filter p (all_decls files)) (keeps_fits (λ r. r.file < length files) p (all_decls files) (all_within files))

pub holders_within : (files : List NamedFacts) (runs : List (List HashedDecl)) → AreRearranged (holder_entries files) (flat_map (λ run. run) runs) → All (IsWithin files) (flat_map (λ run. run) runs)
holders_within files runs are =
    same_all (IsWithin files) (λ k. not (nat_lt (let r = decl_of k in r.file) (length files)))
    (λ k e. lower_so (let r = decl_of k in r.file) (length files) e) (λ k lt. lower_is (let r = decl_of k in r.file) (length files) lt)
    (holder_entries files) (flat_map (λ run. run) runs) are (entries_within files (lasts files) (holds files))

-- so a renumbered file's number is small
pub small_runs : (files : List NamedFacts) (n : ℕ) (runs : List (List HashedDecl)) → All (IsWithin files) (flat_map (λ run. run) runs) → n + length files ≤ 18446744073709551615
    → All (λ run. All (λ k. n + (let r = decl_of k in r.file) ≤ 18446744073709551615) run) runs
small_runs files n runs within small =
    all_of_two (λ run. All (IsWithin files) run) (λ run. All (IsWithin files) run) (λ run. All (λ k. n + (let r = decl_of k in r.file) ≤ 18446744073709551615) run)
    (λ run all other k d lt. let there = all k d lt in omega (arith, there, small)) runs (in_runs (IsWithin files) runs within) (in_runs (IsWithin files) runs within)

pub no_entries : AreEntriesOf [] [] []
no_entries = record { hashes_are = refl; holders_are = λ p. refl }

-- those of some files, then of others
both_runs : (n : ℕ) (rs ss : List (List HashedDecl)) → flat_map (λ run. run) (rs ++ map (λ run. map (with_renumbered n) run) ss) ≡ flat_map (λ run. run) rs ++ map (with_renumbered n) (flat_map (λ run. run) ss)
both_runs n rs ss = flat_map-append (λ run. run) rs (map (λ run. map (with_renumbered n) run) ss) ∙ ap (λ (es : List HashedDecl). flat_map (λ run. run) rs ++ es) (runs_moved n ss)

pub joined_entries : (xs ys : List NamedFacts) (ns ms : List (List ℕ)) (hs gs : List (List HashedDecl)) → AreEntriesOf xs ns hs → AreEntriesOf ys ms gs
    → AreEntriesOf (xs ++ ys) (ns ++ ms) (hs ++ map (λ run. map (with_renumbered (length xs)) run) gs)
joined_entries xs ys ns ms hs gs front back = record {
  hashes_are = ap₂ (λ (a b : List (List ℕ)). a ++ b) front.hashes_are back.hashes_are ∙ sym (map-append hashes_of xs ys);
  holders_are = λ p.
      ap (λ (es : List HashedDecl). length (filter p es)) (sym (holders_both xs ys))
      ∙ same_both (holder_entries xs) (map (with_renumbered (length xs)) (holder_entries ys)) (flat_map (λ run. run) hs) (map (with_renumbered (length xs)) (flat_map (λ run. run) gs)) front.holders_are
      (λ q. same_mapped (with_renumbered (length xs)) (holder_entries ys) (flat_map (λ run. run) gs) back.holders_are q) p
      ∙ ap (λ (es : List HashedDecl). length (filter p es)) (sym (both_runs (length xs) hs gs));
}

-- the same where the lists are known by what they are
pub followed : (xs ys files : List NamedFacts) (ns ms hashes : List (List ℕ)) (hs gs holders : List (List HashedDecl)) (n : ℕ) → files ≡ xs ++ ys → n ≡ length xs
    → hashes ≡ ns ++ ms → holders ≡ hs ++ map (λ run. map (with_renumbered n) run) gs → AreEntriesOf xs ns hs → AreEntriesOf ys ms gs → AreEntriesOf files hashes holders
followed xs ys files ns ms hashes hs gs holders n files_are long hashes_are holders_are front back = rw (files_are, hashes_are, holders_are, long) (joined_entries xs ys ns ms hs gs front back)

-- ---- entries for hashes

abbrev entry : ℕ → ℕ × ℕ → HashedDecl
entry f e = record { hash = e.1; decl = record { file = f; number = e.0 } }

-- those of the declarations of one file
in_file : (name : DeclRef → List ℕ) (f n : ℕ) (decls : List Decl) → ((k : ℕ) → name (record { file = f; number = n + k }) ≡ (let d = get_or decls k no_decl in d.full_name))
    → map (hashed name) (map (numbered f) (enumerate_from n decls)) ≡ map (entry f) (enumerate_from n (map (λ d. hash_of d.full_name) decls))
in_file name f n [] named = refl
in_file name f n (d ∷ ds) named =
    let here : n ≡ n + 0 = omega arith in
    ap₂ (λ (h : ℕ) (es : List HashedDecl). record { hash = h; decl = record { file = f; number = n } } ∷ es)
    (ap hash_of (ap (λ k. name (record { file = f; number = k })) here ∙ named 0))
    (in_file name f (n + 1) ds (λ k. let next : n + 1 + k ≡ n + suc k = omega arith in ap (λ m. name (record { file = f; number = m })) next ∙ named (suc k)))

abbrev of_file : ℕ × List ℕ → List HashedDecl
of_file e = entries_of e.0 e.1

-- those of all files from one on
in_files : (name : DeclRef → List ℕ) (n : ℕ) (files : List NamedFacts) → ((f k : ℕ) → name (record { file = n + f; number = k }) ≡ name_at files (record { file = f; number = k }))
    → map (hashed name) (flat_map refs (enumerate_from n files)) ≡ flat_map of_file (enumerate_from n (map hashes_of files))
in_files name n [] named = refl
in_files name n (f ∷ fs) named =
    let here : n ≡ n + 0 = omega arith in
    let decls : List Decl = let facts = f.facts in facts.decls in
    map-append (hashed name) (refs (n, f)) (flat_map refs (enumerate_from (n + 1) fs))
    ∙ ap₂ (λ (a b : List HashedDecl). a ++ b)
    (in_file name n 0 decls (λ k. let same_number : 0 + k ≡ k = omega arith in ap₂ (λ (g m : ℕ). name (record { file = g; number = m })) here same_number ∙ named 0 k))
    (in_files name (n + 1) fs (λ g k. let next : n + 1 + g ≡ n + suc g = omega arith in ap (λ m. name (record { file = m; number = k })) next ∙ named (suc g) k))

-- the hashes of the full names make the entries of all declarations
pub named_entries : (files : List NamedFacts) → all_entries (map hashes_of files) ≡ name_entries files
named_entries files = sym (in_files (name_at files) 0 files (λ f k. ap (λ m. name_at files (record { file = m; number = k })) (omega arith)))

-- one hash more
pub next_entry : (f : ℕ) (hashes : List ℕ) (i d : ℕ) → i < length hashes
    → entries_of f (take (i + 1) hashes) ≡ entries_of f (take i hashes) ++ record { hash = get_or hashes i d; decl = record { file = f; number = i } } ∷ []
next_entry f hashes i d lt =
    let long : 0 + length (take i hashes) ≡ i = omega (arith, length-take-le i hashes (omega (arith, lt))) in
    ap (entries_of f) (take_more hashes i d lt)
    ∙ ap (map (entry f)) (enumerate_both 0 (take i hashes) (get_or hashes i d ∷ []))
    ∙ map-append (entry f) (enumerate_from 0 (take i hashes)) (enumerate_from (0 + length (take i hashes)) (get_or hashes i d ∷ []))
    ∙ ap (λ n. entries_of f (take i hashes) ++ entry f (n, get_or hashes i d) ∷ []) long

-- those of one file more
pub next_entries : (files : List (List ℕ)) (hashes : List ℕ) → all_entries (files ++ hashes ∷ []) ≡ all_entries files ++ entries_of (length files) hashes
next_entries files hashes =
    ap (flat_map of_file) (enumerate_both 0 files (hashes ∷ []))
    ∙ flat_map-append of_file (enumerate_from 0 files) (enumerate_from (0 + length files) (hashes ∷ []))
    ∙ ap (λ (es : List HashedDecl). all_entries files ++ es) (append-nil (entries_of (0 + length files) hashes) ∙ ap (λ n. entries_of n hashes) (omega arith))

-- ---- what may settle a scope, file by file

next_decls : (f n : ℕ) (files : List NamedFacts) → n < length files → flat_map refs (enumerate_from f (drop n files)) ≡ refs_of f (decls_at files n) ++ flat_map refs (enumerate_from (f + 1) (drop (n + 1) files))
next_decls f n [] lt = absurd (omega (arith, lt))
next_decls f zero (file ∷ files) lt = refl
next_decls f (suc n) (file ∷ files) lt =
    let next : suc (n + 1) ≡ suc n + 1 = omega arith in
    next_decls f n files (omega (arith, lt)) ∙ ap (λ k. refs_of f (decls_at files n) ++ flat_map refs (enumerate_from (f + 1) (drop k (file ∷ files)))) next

-- those of the files from one on
abbrev pub holders_from : List NamedFacts → ℕ → List HashedDecl
holders_from files n = map (hashed (lasts files)) (filter (holds files) (flat_map refs (enumerate_from n (drop n files))))

pub next_holders : (files : List NamedFacts) (n : ℕ) → n < length files
    → holders_from files n ≡ map (hashed (lasts files)) (filter (holds files) (refs_of n (decls_at files n))) ++ holders_from files (n + 1)
next_holders files n lt =
    let own : List DeclRef = refs_of n (decls_at files n) in
    let others : List DeclRef = flat_map refs (enumerate_from (n + 1) (drop (n + 1) files)) in
    ap (λ ds. map (hashed (lasts files)) (filter (holds files) ds)) (next_decls n n files lt)
    ∙ ap (map (hashed (lasts files))) (filter-append (holds files) own others)
    ∙ map-append (hashed (lasts files)) (filter (holds files) own) (filter (holds files) others)

-- ---- what holds of runs

pub flat_items : {R : Type 0} (items : R → List HashedDecl) (runs : List R) → flat_map items runs ≡ flat_map (λ run. run) (map items runs)
flat_items items [] = refl
flat_items items (run ∷ runs) = ap (λ (es : List HashedDecl). items run ++ es) (flat_items items runs)

pub each_small : {R : Type 0} (items : R → List HashedDecl) (P : HashedDecl → Type 0) (runs : List R) → All (λ run. All P run) (map items runs) → All (λ run. All P (items run)) runs
each_small items P [] all = All-nil (λ run. All P (items run))
each_small items P (run ∷ runs) all =
    All-cons (λ r. All P (items r)) run runs (All-head (λ r. All P r) (items run) (map items runs) all)
    (each_small items P runs (All-tail (λ r. All P r) (items run) (map items runs) all))

-- ---- renumbered in place

pub either_way : (n : ℕ) (k : HashedDecl) → record { hash = k.hash; decl = record { file = (let r = k.decl in r.file) + n; number = (let r = k.decl in r.number) } } ≡ with_renumbered n k
either_way n k =
    let turned : (let r = k.decl in r.file) + n ≡ n + (let r = k.decl in r.file) = omega arith in
    ap (λ (f : ℕ). record { hash = k.hash; decl = record { file = f; number = (let r = k.decl in r.number) } }) turned

module _ (n : ℕ) (old new : List HashedDecl) (i : ℕ) (done : take i new ≡ map (with_renumbered n) (take i old)) (left : drop i new ≡ drop i old) (d : HashedDecl) (lt : i < length new) where
  same_left : length old - i ≡ length new - i
  same_left = sym (length-drop i old) ∙ sym (ap length left) ∙ length-drop i new

  pub as_long : i < length old
  as_long = omega (arith, lt, same_left)

  pub as_before : get_or new i d ≡ get_or old i d
  as_before =
      let start : i ≡ i + 0 = omega arith in
      ap (λ k. get_or new k d) start ∙ sym (get_or-drop i new 0 d) ∙ ap (λ (es : List HashedDecl). get_or es 0 d) left ∙ get_or-drop i old 0 d ∙ ap (λ k. get_or old k d) (sym start)

  pub one_more_done : (e : HashedDecl) → e ≡ with_renumbered n (get_or new i d)
      → (take (i + 1) (set new i e) ≡ map (with_renumbered n) (take (i + 1) old)) × (drop (i + 1) (set new i e) ≡ drop (i + 1) old)
  one_more_done e is = (
    take_more_set new i e lt ∙ ap₂ (λ (es : List HashedDecl) (x : HashedDecl). es ++ x ∷ []) done (is ∙ ap (with_renumbered n) as_before)
        ∙ sym (map-append (with_renumbered n) (take i old) (get_or old i d ∷ []))
        ∙ ap (map (with_renumbered n)) (sym (take_more old i d as_long)),
    drop-set-lt (i + 1) new i e (omega arith) ∙ sym (ap (drop 1) (drop_more new i d lt)) ∙ ap (drop 1) left ∙ ap (drop 1) (drop_more old i d as_long),
  )
