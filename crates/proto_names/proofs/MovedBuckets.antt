-- Buckets of files with one more, and of those without it.
use Rattle.std.proofs.Common.{◌≡◌, ◌∙◌, sym, ap, ap₂, subst, refl, ◌<◌, ◌≤◌, ◌+◌, ◌-◌, ℕ, List, [], ◌∷◌, ◌++◌, append-nil, Bool, true, false, not, map, filter, get_or, length, arith}
use Rattle.std.specs.Prelude.{All, nat_lt}
use Rattle.std.specs.List.{insert, range_with_len, remove}
use Rattle.std.specs.List.Sorted.{IsSorted}
use Rattle.std.specs.Ordering.{is_lt}
use Rattle.std.specs.declared.cmp.Ordering.{Ordering}
use Rattle.std.proofs.Math.Path.{fun_ext}
use Rattle.std.proofs.lemmas.Bool.Decides.{nat_tests}
use Rattle.std.proofs.lemmas.List.{get_or-map, length-map, map-id}
use Rattle.std.proofs.lemmas.List.Edits.{length-insert, length-remove}
use Rattle.std.proofs.lemmas.List.Elements.{All-head, All-map, All-tail, All-weaker, filter_passes}
use Rattle.std.proofs.lemmas.Simd.{map-map}
use Rattle.proto_decls.specs.declared.fact.Decl.{Decl}
use Rattle.proto_decls.specs.FullNames.{hash_of, last_of}
use Rattle.proto_decls.specs.declared.named_facts.NamedFacts.{NamedFacts}
use Rattle.proto_names.specs.declared.hashed.HashedDecl.{HashedDecl}
use Rattle.proto_names.specs.declared.hashed.HashedDecls.{HashedDecls}
use Rattle.proto_names.specs.declared.moving.Change.{Change}
use Rattle.proto_names.specs.declared.moving.Change.TheVariants.{Comes, Leaves}
use Rattle.proto_names.specs.declared.decl_ref.DeclRef.{DeclRef}
use Rattle.proto_names.specs.Buckets.{is_in, AreInBuckets}
use Rattle.proto_names.specs.Files.{all_decls, decl_at, decls_at, refs_of, name_at}
use Rattle.proto_names.specs.Hashed.{hashed}
use Rattle.proto_names.specs.Moved.{moved, number_after, with_moved, AreMoved}
use Rattle.proto_names.specs.Holders.{is_holder}
use Rattle.proto_names.specs.Replaced.{refs_between, WereInBuckets}
use Rattle.proto_names.specs.Tables.{by_name, by_scope, holder_entries, name_entries, AreInOrder}
use Rattle.proto_names.proofs.ByLast.{keeps_fits}
use Rattle.proto_names.proofs.Entries.{all_within}
use Rattle.proto_names.proofs.Hashes.{keeps_mapped}
use Rattle.proto_names.proofs.InBuckets.{buckets_moved}
use Rattle.proto_names.proofs.MovedFiles.{decl_moved, moved_back, moved_before, name_moved, names_come, names_leave, nobody, one_more_at_most, others_moved, put_back, scopes_come, scopes_leave}
use Rattle.proto_names.proofs.Replaced.{another, holders_gathered, names_gathered, not_there, numbered, numbered_from, parted}
use Rattle.proto_names.proofs.Same.{same_all, same_mapped}

abbrev hashes_in : HashedDecls → List ℕ
hashes_in b = b.hashes.items

abbrev decls_in : HashedDecls → List DeclRef
decls_in b = b.decls.items

passes_so : (b : Bool) → not b ≡ false → b ≡ true
passes_so true e = refl
passes_so false e = absurd (cc (e))

-- ---- buckets by other numbers

module _ (change : Change) (at : ℕ) (order order' : HashedDecl → HashedDecl → Ordering) (p : DeclRef → Bool)
    (alike : (a b : HashedDecl) → p a.decl ≡ true → p b.decl ≡ true → order' (with_moved change at a) (with_moved change at b) ≡ order a b) where
  abbrev Passes : HashedDecl → Type 0
  Passes k = p k.decl ≡ true

  sorted_moved : (es : List HashedDecl) → All Passes es → IsSorted order es → IsSorted order' (map (with_moved change at) es)
  sorted_moved es all sorted k d from lt =
      let nothing : HashedDecl = record { hash = 0; decl = record { file = 0; number = 0 } } in
      let long : k + 1 < length es = rw (length-map es (with_moved change at)) at lt in
      let short : k < length es = omega (arith, long) in
      rw (get_or-map (with_moved change at) es (k + 1) nothing d long, get_or-map (with_moved change at) es k nothing d short)
      (ap is_lt (alike (get_or es (k + 1) nothing) (get_or es k nothing) (all (k + 1) nothing long) (all k nothing short)) ∙ sorted k nothing from long)

  in_order : (es : List HashedDecl) (b b' : HashedDecls) → All Passes es → hashes_in b' ≡ hashes_in b → decls_in b' ≡ map (moved change at) (decls_in b) → AreInOrder order es b
      → AreInOrder order' (map (with_moved change at) es) b'
  in_order es b b' all hashes decls here = record {
    sorted = map (with_moved change at) here.sorted;
    same = λ q. same_mapped (with_moved change at) es here.sorted here.same q;
    ordered = sorted_moved here.sorted (same_all Passes (λ k. not (p k.decl)) (λ k e. passes_so (p k.decl) e) (λ k e. ap not e) es here.sorted here.same all) here.ordered;
    hashes_are = hashes ∙ here.hashes_are ∙ sym (map-map (λ (k : HashedDecl). k.hash) (with_moved change at) here.sorted);
    decls_are = decls ∙ ap (map (moved change at)) here.decls_are ∙ map-map (moved change at) (λ (k : HashedDecl). k.decl) here.sorted
        ∙ sym (map-map (λ (k : HashedDecl). k.decl) (with_moved change at) here.sorted);
  }

  pub all_moved : (es : List HashedDecl) (bs bs' : List HashedDecls) → All Passes es → AreMoved change at bs bs' → AreInBuckets order es bs → AreInBuckets order' (map (with_moved change at) es) bs'
  all_moved es bs bs' all moves are =
      let many : length bs' ≡ length bs = sym (length-map bs' hashes_in) ∙ ap length moves.hashes_stay ∙ length-map bs hashes_in in
      record {
        some = rw many are.some;
        each = λ n d lt.
            let lt' : n < length bs = omega (arith, lt, many) in
            let kept : filter (is_in (length bs') n) (map (with_moved change at) es) ≡ map (with_moved change at) (filter (is_in (length bs) n) es) =
            rw many (keeps_mapped (is_in (length bs) n) (with_moved change at) es) in
            let hashes : hashes_in (get_or bs' n d) ≡ hashes_in (get_or bs n d) =
            sym (get_or-map hashes_in bs' n d [] lt) ∙ ap (λ (l : List (List ℕ)). get_or l n []) moves.hashes_stay ∙ get_or-map hashes_in bs n d [] lt' in
            let decls : decls_in (get_or bs' n d) ≡ map (moved change at) (decls_in (get_or bs n d)) =
            sym (get_or-map decls_in bs' n d [] lt) ∙ ap (λ (l : List (List DeclRef)). get_or l n []) moves.decls_are ∙ get_or-map (λ b. map (moved change at) (decls_in b)) bs n d [] lt' in
            rw kept (in_order (filter (is_in (length bs) n) es) (get_or bs n d) (get_or bs' n d) (keeps_fits Passes (is_in (length bs) n) es all) hashes decls (are.each n d lt'));
      }

-- ---- small numbers

abbrev pub IsBelow : ℕ → HashedDecl → Type 0
IsBelow m k = (let r = k.decl in r.file) < m

lower_so : (a b : ℕ) → not (nat_lt a b) ≡ false → a < b
lower_so a b e = grind (arith, nat_tests)

lower_is : (a b : ℕ) → a < b → not (nat_lt a b) ≡ false
lower_is a b lt = grind (arith, nat_tests)

pub small_buckets : (order : HashedDecl → HashedDecl → Ordering) (es : List HashedDecl) (bs : List HashedDecls) (m : ℕ) → AreInBuckets order es bs → All (IsBelow m) es
    → All (λ b. All (λ r. r.file < m) (decls_in b)) bs
small_buckets order es bs m are all n d lt =
    let here : AreInOrder order (filter (is_in (length bs) n) es) (get_or bs n d) = are.each n d lt in
    let sorted : All (IsBelow m) here.sorted =
    same_all (IsBelow m) (λ k. not (nat_lt (let r = k.decl in r.file) m)) (λ k e. lower_so (let r = k.decl in r.file) m e) (λ k le. lower_is (let r = k.decl in r.file) m le)
    (filter (is_in (length bs) n) es) here.sorted here.same (keeps_fits (IsBelow m) (is_in (length bs) n) es all) in
    rw here.decls_are (All-map (λ (r : DeclRef). r.file < m) (λ (k : HashedDecl). k.decl) here.sorted sorted)

-- no number changes where all are in front
all_stay : (at count : ℕ) (bs : List HashedDecls) → count ≤ at + 1 → All (λ b. All (λ r. r.file + 1 < count) (decls_in b)) bs → map decls_in bs ≡ map (λ b. map (moved Comes at) (decls_in b)) bs
all_stay at count [] last all = refl
all_stay at count (b ∷ bs) last all =
    let small : All (λ r. r.file + 1 < count) (decls_in b) = All-head (λ b. All (λ r. r.file + 1 < count) (decls_in b)) b bs all in
    ap₂ (λ (d : List DeclRef) (ds : List (List DeclRef)). d ∷ ds)
    (sym (moved_before at (decls_in b) (All-weaker (λ r. r.file + 1 < count) (λ r. r.file < at) (λ r lt. omega (arith, lt, last)) (decls_in b) small)))
    (all_stay at count bs last (All-tail (λ b. All (λ r. r.file + 1 < count) (decls_in b)) b bs all))

pub buckets_before : (at count : ℕ) (bs : List HashedDecls) → count ≤ at + 1 → All (λ b. All (λ r. r.file + 1 < count) (decls_in b)) bs → AreMoved Comes at bs bs
buckets_before at count bs last all = record {
  hashes_stay = refl;
  decls_are = all_stay at count bs last all;
}

abbrev pub lasts : List NamedFacts → DeclRef → List ℕ
lasts files r = last_of (name_at files r)

abbrev pub holds : List NamedFacts → DeclRef → Bool
holds files r = is_holder (let d = decl_at files r in d.kind)

-- entries for declarations of a file that is one of so many
module _ (files : List NamedFacts) (m : ℕ) (few : length files ≤ m) where
  decls_below : All (λ r. r.file < m) (all_decls files)
  decls_below = All-weaker (λ r. r.file < length files) (λ r. r.file < m) (λ r lt. omega (arith, lt, few)) (all_decls files) (all_within files)

  pub names_below : All (IsBelow m) (name_entries files)
  names_below = All-map (IsBelow m) (hashed (name_at files)) (all_decls files) decls_below

  pub holders_below : All (IsBelow m) (holder_entries files)
  holders_below = All-map (IsBelow m) (hashed (lasts files)) (filter (holds files) (all_decls files)) (keeps_fits (λ r. r.file < m) (holds files) (all_decls files) decls_below)

-- ---- the entries of the other files

entry_moved : (at : ℕ) (text text' : DeclRef → List ℕ) → ((r : DeclRef) → text' (moved Comes at r) ≡ text r) → (rs : List DeclRef)
    → map (with_moved Comes at) (map (hashed text) rs) ≡ map (hashed text') (map (moved Comes at) rs)
entry_moved at text text' texts rs =
    map-map (with_moved Comes at) (hashed text) rs
    ∙ ap (λ (f : DeclRef → HashedDecl). map f rs) (fun_ext (λ r. ap (λ t. record { hash = hash_of t; decl = moved Comes at r }) (sym (texts r))))
    ∙ sym (map-map (hashed text') (moved Comes at) rs)

entry_back : (at : ℕ) (es : List HashedDecl) → map (with_moved Leaves at) (map (with_moved Comes at) es) ≡ es
entry_back at es =
    map-map (with_moved Leaves at) (with_moved Comes at) es
    ∙ ap (λ (f : HashedDecl → HashedDecl). map f es) (fun_ext (λ k. ap (λ r. record { hash = k.hash; decl = r }) (moved_back at k.decl)))
    ∙ map-id es

own_decls : (f : ℕ) (decls : List Decl) → refs_of f decls ≡ refs_between f 0 (length decls - 0)
own_decls f decls =
    let all : length decls - 0 - 0 ≡ length decls = omega arith in
    numbered_from f 0 decls ∙ ap (λ n. map (numbered f) (range_with_len 0 n)) (sym all)

module _ (files : List NamedFacts) (at : ℕ) (file : NamedFacts) (within : at ≤ length files) where
  abbrev more : List NamedFacts
  more = insert files at file

  -- the declarations of the other files, and those of this one
  abbrev pub stay : List DeclRef
  stay = map (moved Comes at) (all_decls files)

  abbrev own : List DeclRef
  own = refs_between at 0 (length (decls_at more at) - 0)

  there : at < length more
  there = omega (arith, within, length-insert files at file within)

  together : (p : DeclRef → Bool) → length (filter p (all_decls more)) ≡ length (filter p (stay ++ own))
  together p = parted more at there p ∙ ap₂ (λ (rs ss : List DeclRef). length (filter p (rs ++ ss))) (others_moved files at file within) (own_decls at (decls_at more at))

  names_moved : map (with_moved Comes at) (name_entries files) ≡ map (hashed (name_at more)) stay
  names_moved = entry_moved at (name_at files) (name_at more) (λ r. name_moved files at file within r) (all_decls files)

  holders_stay : map (moved Comes at) (filter (holds files) (all_decls files)) ≡ filter (holds more) stay
  holders_stay =
      ap (λ (p : DeclRef → Bool). map (moved Comes at) (filter p (all_decls files))) (fun_ext (λ r. ap (λ (d : Decl). is_holder d.kind) (sym (decl_moved files at file within r))))
      ∙ sym (keeps_mapped (holds more) (moved Comes at) (all_decls files))

  holders_moved : map (with_moved Comes at) (holder_entries files) ≡ map (hashed (lasts more)) (filter (holds more) stay)
  holders_moved =
      entry_moved at (lasts files) (lasts more) (λ r. ap last_of (name_moved files at file within r)) (filter (holds files) (all_decls files))
      ∙ ap (map (hashed (lasts more))) holders_stay

  -- ---- the file comes

  pub names_were : (come : List HashedDecl) (bs bs' : List HashedDecls) → come ≡ map (hashed (name_at more)) own → AreMoved Comes at bs bs' → AreInBuckets (by_name (name_at files)) (name_entries files) bs
      → WereInBuckets by_name (name_at more) (name_entries more) [] come bs'
  names_were come bs bs' come_are moves are = record {
    old_name = name_at more;
    stay = map (hashed (name_at more)) stay;
    were = rw append-nil
        (subst (λ es. AreInBuckets (by_name (name_at more)) es bs') names_moved
        (all_moved Comes at (by_name (name_at files)) (by_name (name_at more)) (λ r. true) (λ a b e f. names_come files at file within a b) (name_entries files) bs bs' (λ k d lt. refl) moves are));
    now = λ p. rw come_are (names_gathered (name_at more) (all_decls more) stay own together p);
    alike = λ k d lt. refl;
  }

  pub holders_were : (come : List HashedDecl) (bs bs' : List HashedDecls) → come ≡ map (hashed (lasts more)) (filter (holds more) own) → AreMoved Comes at bs bs'
      → AreInBuckets (by_scope (name_at files)) (holder_entries files) bs → WereInBuckets by_scope (name_at more) (holder_entries more) [] come bs'
  holders_were come bs bs' come_are moves are = record {
    old_name = name_at more;
    stay = map (hashed (lasts more)) (filter (holds more) stay);
    were = rw append-nil
        (subst (λ es. AreInBuckets (by_scope (name_at more)) es bs') holders_moved
        (all_moved Comes at (by_scope (name_at files)) (by_scope (name_at more)) (λ r. true) (λ a b e f. scopes_come files at file within a b) (holder_entries files) bs bs' (λ k d lt. refl) moves are));
    now = λ p. rw come_are (holders_gathered (lasts more) (all_decls more) stay own together (holds more) p);
    alike = λ k d lt. refl;
  }

  -- ---- the file leaves

  pub names_with : (gone : List HashedDecl) (bs : List HashedDecls) → gone ≡ map (hashed (name_at more)) own → AreInBuckets (by_name (name_at more)) (name_entries more) bs
      → AreInBuckets (by_name (name_at more)) (map (hashed (name_at more)) stay ++ gone) bs
  names_with gone bs gone_are are =
      buckets_moved (by_name (name_at more)) (name_entries more) (map (hashed (name_at more)) stay ++ gone) bs
      (λ p. rw gone_are (sym (names_gathered (name_at more) (all_decls more) stay own together p))) are

  pub holders_with : (gone : List HashedDecl) (bs : List HashedDecls) → gone ≡ map (hashed (lasts more)) (filter (holds more) own) → AreInBuckets (by_scope (name_at more)) (holder_entries more) bs
      → AreInBuckets (by_scope (name_at more)) (map (hashed (lasts more)) (filter (holds more) stay) ++ gone) bs
  holders_with gone bs gone_are are =
      buckets_moved (by_scope (name_at more)) (holder_entries more) (map (hashed (lasts more)) (filter (holds more) stay) ++ gone) bs
      (λ p. rw gone_are (sym (holders_gathered (lasts more) (all_decls more) stay own together (holds more) p))) are

  elsewhere : All (λ r. another at r ≡ true) stay
  elsewhere = rw (sym (others_moved files at file within)) (filter_passes (another at) (all_decls more))

  stay_below : (m : ℕ) → length more ≤ m → All (λ r. r.file < m) stay
  stay_below m few =
      All-map (λ (r : DeclRef). r.file < m) (moved Comes at) (all_decls files)
      (All-weaker (λ r. r.file < length files) (λ r. number_after Comes at r.file < m)
      (λ r lt. let most = one_more_at_most at r.file in let long = length-insert files at file within in omega (arith, lt, most, long, few)) (all_decls files) (all_within files))

  pub names_stay_below : (m : ℕ) → length more ≤ m → All (IsBelow m) (map (hashed (name_at more)) stay)
  names_stay_below m few = All-map (IsBelow m) (hashed (name_at more)) stay (stay_below m few)

  pub holders_stay_below : (m : ℕ) → length more ≤ m → All (IsBelow m) (map (hashed (lasts more)) (filter (holds more) stay))
  holders_stay_below m few = All-map (IsBelow m) (hashed (lasts more)) (filter (holds more) stay) (keeps_fits (λ r. r.file < m) (holds more) stay (stay_below m few))

  pub names_left : (bs bs' : List HashedDecls) → AreMoved Leaves at bs bs' → AreInBuckets (by_name (name_at more)) (map (hashed (name_at more)) stay) bs
      → AreInBuckets (by_name (name_at files)) (name_entries files) bs'
  names_left bs bs' moves are =
      subst (λ es. AreInBuckets (by_name (name_at files)) es bs') (ap (map (with_moved Leaves at)) (sym names_moved) ∙ entry_back at (name_entries files))
      (all_moved Leaves at (by_name (name_at more)) (by_name (name_at files)) (another at)
      (λ a b e f. names_leave files at file within a b (not_there (let r = a.decl in r.file) at e) (not_there (let r = b.decl in r.file) at f))
      (map (hashed (name_at more)) stay) bs bs' (All-map (λ (k : HashedDecl). another at k.decl ≡ true) (hashed (name_at more)) stay elsewhere) moves are)

  pub holders_left : (bs bs' : List HashedDecls) → AreMoved Leaves at bs bs' → AreInBuckets (by_scope (name_at more)) (map (hashed (lasts more)) (filter (holds more) stay)) bs
      → AreInBuckets (by_scope (name_at files)) (holder_entries files) bs'
  holders_left bs bs' moves are =
      subst (λ es. AreInBuckets (by_scope (name_at files)) es bs') (ap (map (with_moved Leaves at)) (sym holders_moved) ∙ entry_back at (holder_entries files))
      (all_moved Leaves at (by_scope (name_at more)) (by_scope (name_at files)) (another at)
      (λ a b e f. scopes_leave files at file within a b (not_there (let r = a.decl in r.file) at e) (not_there (let r = b.decl in r.file) at f))
      (map (hashed (lasts more)) (filter (holds more) stay)) bs bs'
      (All-map (λ (k : HashedDecl). another at k.decl ≡ true) (hashed (lasts more)) (filter (holds more) stay) (keeps_fits (λ r. another at r ≡ true) (holds more) stay elsewhere)) moves are)

-- ---- the same of files of which one leaves

module _ (files : List NamedFacts) (at : ℕ) (here : at < length files) where
  abbrev rest : List NamedFacts
  rest = remove files at

  within_rest : at ≤ length rest
  within_rest = let fewer = length-remove files at here in omega (arith, fewer, here)

  whole : insert rest at (get_or files at nobody) ≡ files
  whole = put_back files at nobody here

  -- the declarations of the others
  abbrev pub others : List DeclRef
  others = map (moved Comes at) (all_decls rest)

  pub names_are_with : (gone : List HashedDecl) (bs : List HashedDecls) → gone ≡ map (hashed (name_at files)) (refs_between at 0 (length (decls_at files at) - 0))
      → AreInBuckets (by_name (name_at files)) (name_entries files) bs → AreInBuckets (by_name (name_at files)) (map (hashed (name_at files)) others ++ gone) bs
  names_are_with =
      subst (λ (fs : List NamedFacts). (gone : List HashedDecl) (bs : List HashedDecls) → gone ≡ map (hashed (name_at fs)) (refs_between at 0 (length (decls_at fs at) - 0))
      → AreInBuckets (by_name (name_at fs)) (name_entries fs) bs → AreInBuckets (by_name (name_at fs)) (map (hashed (name_at fs)) others ++ gone) bs)
      whole (names_with rest at (get_or files at nobody) within_rest)

  pub holders_are_with : (gone : List HashedDecl) (bs : List HashedDecls) → gone ≡ map (hashed (lasts files)) (filter (holds files) (refs_between at 0 (length (decls_at files at) - 0)))
      → AreInBuckets (by_scope (name_at files)) (holder_entries files) bs → AreInBuckets (by_scope (name_at files)) (map (hashed (lasts files)) (filter (holds files) others) ++ gone) bs
  holders_are_with =
      subst (λ (fs : List NamedFacts). (gone : List HashedDecl) (bs : List HashedDecls) → gone ≡ map (hashed (lasts fs)) (filter (holds fs) (refs_between at 0 (length (decls_at fs at) - 0)))
      → AreInBuckets (by_scope (name_at fs)) (holder_entries fs) bs → AreInBuckets (by_scope (name_at fs)) (map (hashed (lasts fs)) (filter (holds fs) others) ++ gone) bs)
      whole (holders_with rest at (get_or files at nobody) within_rest)

  pub other_names_below : (m : ℕ) → length files ≤ m → All (IsBelow m) (map (hashed (name_at files)) others)
  other_names_below m =
      subst (λ (fs : List NamedFacts). length fs ≤ m → All (IsBelow m) (map (hashed (name_at fs)) others)) whole (names_stay_below rest at (get_or files at nobody) within_rest m)

  pub other_holders_below : (m : ℕ) → length files ≤ m → All (IsBelow m) (map (hashed (lasts files)) (filter (holds files) others))
  other_holders_below m =
      subst (λ (fs : List NamedFacts). length fs ≤ m → All (IsBelow m) (map (hashed (lasts fs)) (filter (holds fs) others))) whole
      (holders_stay_below rest at (get_or files at nobody) within_rest m)

  pub names_are_left : (bs bs' : List HashedDecls) → AreMoved Leaves at bs bs' → AreInBuckets (by_name (name_at files)) (map (hashed (name_at files)) others) bs
      → AreInBuckets (by_name (name_at rest)) (name_entries rest) bs'
  names_are_left =
      subst (λ (fs : List NamedFacts). (bs bs' : List HashedDecls) → AreMoved Leaves at bs bs' → AreInBuckets (by_name (name_at fs)) (map (hashed (name_at fs)) others) bs
      → AreInBuckets (by_name (name_at rest)) (name_entries rest) bs')
      whole (names_left rest at (get_or files at nobody) within_rest)

  pub holders_are_left : (bs bs' : List HashedDecls) → AreMoved Leaves at bs bs' → AreInBuckets (by_scope (name_at files)) (map (hashed (lasts files)) (filter (holds files) others)) bs
      → AreInBuckets (by_scope (name_at rest)) (holder_entries rest) bs'
  holders_are_left =
      subst (λ (fs : List NamedFacts). (bs bs' : List HashedDecls) → AreMoved Leaves at bs bs' → AreInBuckets (by_scope (name_at fs)) (map (hashed (lasts fs)) (filter (holds fs) others)) bs
      → AreInBuckets (by_scope (name_at rest)) (holder_entries rest) bs')
      whole (holders_left rest at (get_or files at nobody) within_rest)
