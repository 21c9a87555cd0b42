-- The entries of files after other facts were put in the place of one's.
use Rattle.std.proofs.Common.{◌≡◌, ◌≢◌, ◌∙◌, sym, ap, ap₂, subst, refl, inl, inr, ◌==◌, ◌<◌, ◌≤◌, ◌+◌, ◌-◌, ℕ, zero, suc, List, [], ◌∷◌, ◌++◌, append-nil, Bool, true, false, not, map, filter, get_or, set, length, bytes_eq, arith}
use Rattle.std.specs.Prelude.{All}
use Rattle.std.specs.List.{enumerate_from, flat_map, range_with_len}
use Rattle.std.specs.declared.cmp.Ordering.{Ordering}
use Rattle.std.proofs.lemmas.Bool.{cases_eq}
use Rattle.std.proofs.lemmas.Bool.Decides.{nat_tests}
use Rattle.std.proofs.lemmas.List.{get_or-map, get_or-set_same, length-set, map-append}
use Rattle.std.proofs.lemmas.List.Elements.{All-append, All-map, All-weaker, filter-append, filter_passes}
use Rattle.std.proofs.lemmas.List.FromFn.{get_or-map-range_with_len, length-map-range_with_len}
use Rattle.std.proofs.lemmas.List.Sorted.{IsPermutation-filter_both}
use Rattle.std.proofs.lemmas.Slice.Eq.{bytes_eq-Decides}
use Rattle.proto_decls.specs.declared.fact.Decl.{Decl}
use Rattle.proto_decls.specs.declared.fact.FileFacts.{FileFacts}
use Rattle.proto_decls.specs.declared.named_facts.NamedFacts.{NamedFacts}
use Rattle.proto_names.specs.declared.hashed.HashedDecl.{HashedDecl}
use Rattle.proto_names.specs.declared.hashed.HashedDecls.{HashedDecls}
use Rattle.proto_names.specs.declared.decl_ref.DeclRef.{DeclRef}
use Rattle.proto_names.specs.Buckets.{is_in, AreInBuckets}
use Rattle.proto_names.specs.Files.{all_decls, decl_at, decls_at, no_decl, no_facts, refs_of, name_at}
use Rattle.proto_names.specs.Hashed.{hashed}
use Rattle.proto_names.specs.Holders.{is_holder}
use Rattle.proto_names.specs.Outlines.{declared, with_facts}
use Rattle.proto_names.specs.Replaced.{refs_between, AreKept, WereInBuckets}
use Rattle.proto_names.specs.Tables.{by_name, by_scope, holder_entries, name_entries, AreInOrder, AreRearranged}
use Rattle.proto_decls.specs.FullNames.{last_of}
use Rattle.proto_names.proofs.ByLast.{keeps_fits}
use Rattle.proto_names.proofs.Entries.{holders_alike, map_alike, names_alike, scopes_alike, sorted_alike}
use Rattle.proto_names.proofs.Hashes.{keeps_all, keeps_none}
use Rattle.proto_names.proofs.InBuckets.{buckets_moved}
use Rattle.proto_names.proofs.Order.{files_from, refs, refs_from, IsFrom}
use Rattle.proto_names.proofs.Same.{counted_both, same_all, same_kept, same_mapped, same_moved}

abbrev pub another : ℕ → DeclRef → Bool
another f r = not (r.file == f)

abbrev of_file : ℕ → DeclRef → Bool
of_file f r = r.file == f

is_there : (a b : ℕ) → a ≡ b → (a == b) ≡ true
is_there a b e = grind (arith, nat_tests)

pub is_elsewhere : (a b : ℕ) → (a ≡ b → ⊥) → (a == b) ≡ false
is_elsewhere a b other = grind (arith, nat_tests)

pub not_there : (a b : ℕ) → not (a == b) ≡ true → a ≢ b
not_there a b e same = absurd (cc (e, is_there a b same))

-- ---- the declarations of one file, and those of the others

mine : (n : ℕ) (decls : List Decl) → filter (of_file n) (refs_of n decls) ≡ refs_of n decls
mine n decls = keeps_all (of_file n) (refs_of n decls) (All-weaker (IsFrom n 0) (λ r. of_file n r ≡ true) (λ r from. is_there r.file n from.0) (refs_of n decls) (refs_from n 0 decls))

none_of : (f n : ℕ) (decls : List Decl) → n ≢ f → filter (of_file f) (refs_of n decls) ≡ []
none_of f n decls other =
    keeps_none (of_file f) (refs_of n decls) (All-weaker (IsFrom n 0) (λ r. of_file f r ≡ false) (λ r from. is_elsewhere r.file f (λ e. other (sym from.0 ∙ e))) (refs_of n decls) (refs_from n 0 decls))

none_behind : (f n : ℕ) (files : List NamedFacts) → f < n → filter (of_file f) (flat_map refs (enumerate_from n files)) ≡ []
none_behind f n files lt =
    keeps_none (of_file f) (flat_map refs (enumerate_from n files))
    (All-weaker (λ r. n ≤ r.file) (λ r. of_file f r ≡ false) (λ r from. is_elsewhere r.file f (λ e. omega (arith, lt, from, e))) (flat_map refs (enumerate_from n files)) (files_from n files))

pub none_else : (n : ℕ) (decls : List Decl) → filter (another n) (refs_of n decls) ≡ []
none_else n decls = keeps_none (another n) (refs_of n decls) (All-weaker (IsFrom n 0) (λ r. another n r ≡ false) (λ r from. ap not (is_there r.file n from.0)) (refs_of n decls) (refs_from n 0 decls))

abbrev decls_in : NamedFacts → List Decl
decls_in file = let facts = file.facts in facts.decls

others_from : (n f : ℕ) (files : List NamedFacts) (x : NamedFacts)
    → filter (another (n + f)) (flat_map refs (enumerate_from n (set files f x))) ≡ filter (another (n + f)) (flat_map refs (enumerate_from n files))
others_from n f [] x = refl
others_from n zero (y ∷ files) x =
    let here : n + 0 ≡ n = omega arith in
    rw here (
    filter-append (another n) (refs_of n (decls_in x)) (flat_map refs (enumerate_from (n + 1) files))
    ∙ ap (λ (rs : List DeclRef). rs ++ filter (another n) (flat_map refs (enumerate_from (n + 1) files))) (none_else n (decls_in x) ∙ sym (none_else n (decls_in y)))
    ∙ sym (filter-append (another n) (refs_of n (decls_in y)) (flat_map refs (enumerate_from (n + 1) files)))
    )
others_from n (suc f) (y ∷ files) x =
    let next : n + suc f ≡ n + 1 + f = omega arith in
    rw next (
    filter-append (another (n + 1 + f)) (refs_of n (decls_in y)) (flat_map refs (enumerate_from (n + 1) (set files f x)))
    ∙ ap (λ (rs : List DeclRef). filter (another (n + 1 + f)) (refs_of n (decls_in y)) ++ rs) (others_from (n + 1) f files x)
    ∙ sym (filter-append (another (n + 1 + f)) (refs_of n (decls_in y)) (flat_map refs (enumerate_from (n + 1) files)))
    )

own_from : (n f : ℕ) (files : List NamedFacts) (d : NamedFacts) → f < length files → filter (of_file (n + f)) (flat_map refs (enumerate_from n files)) ≡ refs_of (n + f) (decls_in (get_or files f d))
own_from n f [] d lt = absurd (omega (arith, lt))
own_from n zero (y ∷ files) d lt =
    let here : n + 0 ≡ n = omega arith in
    rw here (
    filter-append (of_file n) (refs_of n (decls_in y)) (flat_map refs (enumerate_from (n + 1) files))
    ∙ ap₂ (λ (rs ss : List DeclRef). rs ++ ss) (mine n (decls_in y)) (none_behind n (n + 1) files (omega arith))
    ∙ append-nil (refs_of n (decls_in y))
    )
own_from n (suc f) (y ∷ files) d lt =
    let next : n + suc f ≡ n + 1 + f = omega arith in
    rw next (
    filter-append (of_file (n + 1 + f)) (refs_of n (decls_in y)) (flat_map refs (enumerate_from (n + 1) files))
    ∙ ap₂ (λ (rs ss : List DeclRef). rs ++ ss) (none_of (n + 1 + f) n (decls_in y) (λ e. omega (arith, e))) (own_from (n + 1) f files d (omega (arith, lt)))
    )

-- ---- what the others are called

facts_elsewhere : (files : List NamedFacts) (f g : ℕ) (x : NamedFacts) → g ≢ f → get_or (map (λ (file : NamedFacts). file.facts) (set files f x)) g no_facts ≡ get_or (map (λ (file : NamedFacts). file.facts) files) g no_facts
facts_elsewhere [] f g x other = refl
facts_elsewhere (y ∷ files) zero zero x other = absurd (other refl)
facts_elsewhere (y ∷ files) zero (suc g) x other = refl
facts_elsewhere (y ∷ files) (suc f) zero x other = refl
facts_elsewhere (y ∷ files) (suc f) (suc g) x other = facts_elsewhere files f g x (λ e. other (ap suc e))

twice : (b : Bool) → b ≡ not (not b)
twice true = refl
twice false = refl

module _ (old : List NamedFacts) (f : ℕ) (facts : FileFacts) (there : f < length old) where
  decl_elsewhere : (r : DeclRef) → r.file ≢ f → decl_at old r ≡ decl_at (with_facts old f facts) r
  decl_elsewhere r other = ap (λ (fs : FileFacts). get_or fs.decls r.number no_decl) (sym (facts_elsewhere old f r.file (record { path = get_or (map (λ (file : NamedFacts). file.path) old) f []; facts = facts }) other))

  others_are : filter (another f) (all_decls (with_facts old f facts)) ≡ filter (another f) (all_decls old)
  others_are =
      let first : 0 + f ≡ f = omega arith in
      subst (λ n. filter (another n) (all_decls (with_facts old f facts)) ≡ filter (another n) (all_decls old)) first
      (others_from 0 f old (record { path = get_or (map (λ (file : NamedFacts). file.path) old) f []; facts = facts }))

  elsewhere : All (λ r. r.file ≢ f) (filter (another f) (all_decls old))
  elsewhere = All-weaker (λ r. another f r ≡ true) (λ r. r.file ≢ f) (λ r e. not_there r.file f e) (filter (another f) (all_decls old)) (filter_passes (another f) (all_decls old))

-- ---- parts of the declarations of one file

abbrev pub numbered : ℕ → ℕ → DeclRef
numbered f n = record { file = f; number = n }

pub numbered_from : (f n : ℕ) (decls : List Decl) → map (λ (d : ℕ × Decl). numbered f d.0) (enumerate_from n decls) ≡ map (numbered f) (range_with_len n (length decls))
numbered_from f n [] = refl
numbered_from f n (x ∷ xs) = ap (λ (rs : List DeclRef). record { file = f; number = n } ∷ rs) (numbered_from f (n + 1) xs)

range_parts : (a m n : ℕ) → range_with_len a (m + n) ≡ range_with_len a m ++ range_with_len (a + m) n
range_parts a zero n =
    let first : a + 0 ≡ a = omega arith in
    let none : 0 + n ≡ n = omega arith in
    rw (first, none) refl
range_parts a (suc m) n =
    let more : suc m + n ≡ suc (m + n) = omega arith in
    let next : a + suc m ≡ a + 1 + m = omega arith in
    rw (more, next) (ap (λ (ks : List ℕ). a ∷ ks) (range_parts (a + 1) m n))

parts_between : (f start middle end : ℕ) → start ≤ middle → middle ≤ end → refs_between f start end ≡ refs_between f start middle ++ refs_between f middle end
parts_between f start middle end le le' =
    let long : end - start ≡ (middle - start) + (end - middle) = omega (arith, le, le') in
    let place : start + (middle - start) ≡ middle = omega (arith, le) in
    ap (λ n. map (numbered f) (range_with_len start n)) long
    ∙ ap (map (numbered f)) (range_parts start (middle - start) (end - middle))
    ∙ map-append (numbered f) (range_with_len start (middle - start)) (range_with_len (start + (middle - start)) (end - middle))
    ∙ ap (λ n. refs_between f start middle ++ map (numbered f) (range_with_len n (end - middle))) place

own_parts : (f front back : ℕ) (decls : List Decl) → front + back ≤ length decls
    → refs_of f decls ≡ refs_between f 0 front ++ (refs_between f front (length decls - back) ++ refs_between f (length decls - back) (length decls))
own_parts f front back decls within =
    let all : length decls - 0 ≡ length decls = omega arith in
    numbered_from f 0 decls ∙ ap (λ n. map (numbered f) (range_with_len 0 n)) (sym all)
    ∙ parts_between f 0 front (length decls) (omega arith) (omega (arith, within))
    ∙ ap (λ (rs : List DeclRef). refs_between f 0 front ++ rs) (parts_between f front (length decls - back) (length decls) (omega (arith, within)) (omega arith))

each_between : (P : DeclRef → Type 0) (f start end : ℕ) → ((n : ℕ) → start ≤ n → n < end → P (record { file = f; number = n })) → All P (refs_between f start end)
each_between P f start end holds k d lt =
    let within : k < end - start = rw (length-map-range_with_len (numbered f) start (end - start)) at lt in
    rw (get_or-map-range_with_len (numbered f) start (end - start) k (start + k) d within refl) (holds (start + k) (omega arith) (omega (arith, within)))

-- ---- the declarations of all files, of which those of one are in parts

module _ (files : List NamedFacts) (f : ℕ) (there : f < length files) where
  own_decls : filter (of_file f) (all_decls files) ≡ refs_of f (decls_at files f)
  own_decls =
      let file : NamedFacts = record { path = []; facts = no_facts } in
      let first : 0 + f ≡ f = omega arith in
      subst (λ n. filter (of_file n) (all_decls files) ≡ refs_of n (decls_in (get_or files f file))) first (own_from 0 f files file there)
      ∙ ap (λ (fs : FileFacts). refs_of f fs.decls) (sym (get_or-map (λ (file : NamedFacts). file.facts) files f file no_facts there))

  pub parted : (p : DeclRef → Bool) → length (filter p (all_decls files)) ≡ length (filter p (filter (another f) (all_decls files) ++ refs_of f (decls_at files f)))
  parted p =
      same_moved (all_decls files) (filter (another f) (all_decls files) ++ filter (of_file f) (all_decls files)) (IsPermutation-filter_both (another f) (of_file f) (λ r. twice (of_file f r)) (all_decls files)) p
      ∙ ap (λ rs. length (filter p (filter (another f) (all_decls files) ++ rs))) own_decls

  gathered : (others a m b : List DeclRef) → others ≡ filter (another f) (all_decls files) → refs_of f (decls_at files f) ≡ a ++ (m ++ b)
      → (p : DeclRef → Bool) → length (filter p (all_decls files)) ≡ length (filter p ((others ++ (a ++ b)) ++ m))
  gathered others a m b others_are own p =
      let all : length (filter p (all_decls files)) ≡ length (filter p (others ++ (a ++ (m ++ b)))) = parted p ∙ ap₂ (λ (rs ss : List DeclRef). length (filter p (rs ++ ss))) (sym others_are) own in
      omega (arith, all, counted_both p others (a ++ (m ++ b)), counted_both p a (m ++ b), counted_both p m b, counted_both p (others ++ (a ++ b)) m, counted_both p others (a ++ b), counted_both p a b)

-- ---- their entries

module _ (text : DeclRef → List ℕ) (rs stay part : List DeclRef) (same : (p : DeclRef → Bool) → length (filter p rs) ≡ length (filter p (stay ++ part))) where
  pub names_gathered : AreRearranged (map (hashed text) rs) (map (hashed text) stay ++ map (hashed text) part)
  names_gathered p = same_mapped (hashed text) rs (stay ++ part) same p ∙ ap (λ es. length (filter p es)) (map-append (hashed text) stay part)

  pub holders_gathered : (holder : DeclRef → Bool) → AreRearranged (map (hashed text) (filter holder rs)) (map (hashed text) (filter holder stay) ++ map (hashed text) (filter holder part))
  holders_gathered holder p =
      same_mapped (hashed text) (filter holder rs) (filter holder (stay ++ part)) (same_kept rs (stay ++ part) same holder) p
      ∙ ap (λ es. length (filter p es)) (ap (map (hashed text)) (filter-append holder stay part) ∙ map-append (hashed text) (filter holder stay) (filter holder part))

abbrev decl_of : HashedDecl → DeclRef
decl_of k = k.decl

abbrev lasts : List NamedFacts → DeclRef → List ℕ
lasts files r = last_of (name_at files r)

abbrev holds : List NamedFacts → DeclRef → Bool
holds files r = is_holder (let d = decl_at files r in d.kind)

-- ---- the files before and after a change

decls_were : (old : List NamedFacts) (f : ℕ) (file : NamedFacts) → f < length old → file ≡ get_or old f file → decls_in file ≡ decls_at old f
decls_were old f file there is = ap (λ (fs : FileFacts). fs.decls) (ap (λ (x : NamedFacts). x.facts) is ∙ sym (get_or-map (λ (x : NamedFacts). x.facts) old f file no_facts there))

decls_are : (old : List NamedFacts) (f : ℕ) (facts : FileFacts) → f < length old → facts.decls ≡ decls_at (with_facts old f facts) f
decls_are old f facts there =
    let one : NamedFacts = record { path = get_or (map (λ (x : NamedFacts). x.path) old) f []; facts = facts } in
    let inside : f < length (with_facts old f facts) = omega (arith, there, length-set old f one) in
    let at : one ≡ get_or (with_facts old f facts) f one = sym (get_or-set_same old f one one there) in
    decls_were (with_facts old f facts) f one inside at

-- declarations that are kept, where they stand in the files
pub kept_there : (old : List NamedFacts) (f : ℕ) (file : NamedFacts) (facts : FileFacts) (before after : List Decl) (front back : ℕ) → f < length old → file ≡ get_or old f file
    → before ≡ decls_in file → after ≡ facts.decls → AreKept before after front back → AreKept (decls_at old f) (decls_at (with_facts old f facts) f) front back
kept_there old f file facts before after front back there is were are kept =
    subst (λ ds. AreKept ds (decls_at (with_facts old f facts) f) front back) (were ∙ decls_were old f file there is)
    (subst (λ ds. AreKept before ds front back) (are ∙ decls_are old f facts there) kept)

module _ (old : List NamedFacts) (f : ℕ) (facts : FileFacts) (there : f < length old) (front back : ℕ) (kept : AreKept (decls_at old f) (decls_at (with_facts old f facts) f) front back) where
  abbrev new : List NamedFacts
  new = with_facts old f facts

  abbrev was : ℕ
  was = length (decls_at old f)

  abbrev is : ℕ
  is = length (decls_at new f)

  -- the declarations that stay
  abbrev stay : List DeclRef
  stay = filter (another f) (all_decls old) ++ (refs_between f 0 front ++ refs_between f (was - back) was)

  abbrev SayTheSame : DeclRef → Type 0
  SayTheSame r = declared (decl_at old r) ≡ declared (decl_at new r)

  still_there : f < length new
  still_there = omega (arith, there, length-set old f (record { path = get_or (map (λ (file : NamedFacts). file.path) old) f []; facts = facts }))

  same_back : refs_between f (was - back) was ≡ refs_between f (is - back) is
  same_back = elim (cases_eq back 0) [
    | inl none ↦
        let nothing : was - (was - back) ≡ 0 = omega (arith, none) in
        let nothing' : is - (is - back) ≡ 0 = omega (arith, none) in
        rw (nothing, nothing') refl
    | inr some ↦
        let as_many : was ≡ is = (kept.at_back (was - back) no_decl (omega arith) (omega (arith, some, kept.within_before))).0 in
        ap (λ n. refs_between f (n - back) n) as_many
  ]

  same_old : (p : DeclRef → Bool) → length (filter p (all_decls old)) ≡ length (filter p (stay ++ refs_between f front (was - back)))
  same_old =
      gathered old f there (filter (another f) (all_decls old)) (refs_between f 0 front) (refs_between f front (was - back)) (refs_between f (was - back) was) refl
      (own_parts f front back (decls_at old f) kept.within_before)

  same_new : (p : DeclRef → Bool) → length (filter p (all_decls new)) ≡ length (filter p (stay ++ refs_between f front (is - back)))
  same_new =
      gathered new f still_there (filter (another f) (all_decls old)) (refs_between f 0 front) (refs_between f front (is - back)) (refs_between f (was - back) was)
      (sym (others_are old f facts there))
      (own_parts f front back (decls_at new f) kept.within_after
      ∙ ap (λ (rs : List DeclRef). refs_between f 0 front ++ (refs_between f front (is - back) ++ rs)) (sym same_back))

  all_say_the_same : All SayTheSame stay
  all_say_the_same =
      All-append SayTheSame (filter (another f) (all_decls old)) (refs_between f 0 front ++ refs_between f (was - back) was)
      (All-weaker (λ r. r.file ≢ f) SayTheSame (λ r other. ap declared (decl_elsewhere old f facts there r other)) (filter (another f) (all_decls old)) (elsewhere old f facts there))
      (All-append SayTheSame (refs_between f 0 front) (refs_between f (was - back) was)
      (each_between SayTheSame f 0 front (λ n from lt. kept.at_front n no_decl lt))
      (each_between SayTheSame f (was - back) was (λ n from lt. (kept.at_back n no_decl (omega (arith, from)) lt).1)))

  same_names : All (λ r. name_at old r ≡ name_at new r) stay
  same_names = All-weaker SayTheSame (λ r. name_at old r ≡ name_at new r) (λ r same. ap (λ d. d.1) same) stay all_say_the_same

  same_holders : All (λ r. (lasts old r ≡ lasts new r) × (holds old r ≡ holds new r)) stay
  same_holders = All-weaker SayTheSame (λ r. (lasts old r ≡ lasts new r) × (holds old r ≡ holds new r)) (λ r same. (ap (λ d. last_of d.1) same, ap (λ d. is_holder d.0) same)) stay all_say_the_same

  pub names_were : (gone come : List HashedDecl) (buckets : List HashedDecls) → gone ≡ map (hashed (name_at old)) (refs_between f front (was - back)) → come ≡ map (hashed (name_at new)) (refs_between f front (is - back))
      → AreInBuckets (by_name (name_at old)) (name_entries old) buckets → WereInBuckets by_name (name_at new) (name_entries new) gone come buckets
  names_were gone come buckets gone_are come_are are = record {
    old_name = name_at old;
    stay = map (hashed (name_at old)) stay;
    were = buckets_moved (by_name (name_at old)) (name_entries old) (map (hashed (name_at old)) stay ++ gone) buckets
        (λ p. rw gone_are (sym (names_gathered (name_at old) (all_decls old) stay (refs_between f front (was - back)) same_old p))) are;
    now = λ p. rw (come_are, map_alike (name_at old) (name_at new) stay same_names) (names_gathered (name_at new) (all_decls new) stay (refs_between f front (is - back)) same_new p);
    alike = All-map (λ k. name_at old (decl_of k) ≡ name_at new (decl_of k)) (hashed (name_at old)) stay same_names;
  }

  pub holders_were : (gone come : List HashedDecl) (buckets : List HashedDecls) → gone ≡ map (hashed (lasts old)) (filter (holds old) (refs_between f front (was - back)))
      → come ≡ map (hashed (lasts new)) (filter (holds new) (refs_between f front (is - back)))
      → AreInBuckets (by_scope (name_at old)) (holder_entries old) buckets → WereInBuckets by_scope (name_at new) (holder_entries new) gone come buckets
  holders_were gone come buckets gone_are come_are are = record {
    old_name = name_at old;
    stay = map (hashed (lasts old)) (filter (holds old) stay);
    were = buckets_moved (by_scope (name_at old)) (holder_entries old) (map (hashed (lasts old)) (filter (holds old) stay) ++ gone) buckets
        (λ p. rw gone_are (sym (holders_gathered (lasts old) (all_decls old) stay (refs_between f front (was - back)) same_old (holds old) p))) are;
    now = λ p. rw (come_are, holders_alike (lasts old) (lasts new) (holds old) (holds new) stay same_holders) (holders_gathered (lasts new) (all_decls new) stay (refs_between f front (is - back)) same_new (holds new) p);
    alike = All-map (λ k. name_at old (decl_of k) ≡ name_at new (decl_of k)) (hashed (lasts old)) (filter (holds old) stay) (keeps_fits (λ r. name_at old r ≡ name_at new r) (holds old) stay same_names);
  }

-- ---- what stays keeps its order

module _ (old new : DeclRef → List ℕ) where
  abbrev IsNamedAlike : HashedDecl → Type 0
  IsNamedAlike k = old (decl_of k) ≡ new (decl_of k)

  abbrev named_apart : HashedDecl → Bool
  named_apart k = not (bytes_eq (old (decl_of k)) (new (decl_of k)))

  same_so : (k : HashedDecl) → named_apart k ≡ false → IsNamedAlike k
  same_so k e = (bytes_eq-Decides (old (decl_of k)) (new (decl_of k))).0 (twice (bytes_eq (old (decl_of k)) (new (decl_of k))) ∙ ap not e)

  so_same : (k : HashedDecl) → IsNamedAlike k → named_apart k ≡ false
  so_same k e = ap not ((bytes_eq-Decides (old (decl_of k)) (new (decl_of k))).1 e)

  still_in_order : (order order' : HashedDecl → HashedDecl → Ordering) → ((a b : HashedDecl) → IsNamedAlike a → IsNamedAlike b → order a b ≡ order' a b)
      → (es : List HashedDecl) (buckets : List HashedDecls) → All IsNamedAlike es → AreInBuckets order es buckets → AreInBuckets order' es buckets
  still_in_order order order' alike es buckets all are = record {
    some = are.some;
    each = λ n d lt.
        let here : AreInOrder order (filter (is_in (length buckets) n) es) (get_or buckets n d) = are.each n d lt in
        record {
          sorted = here.sorted;
          same = here.same;
          ordered = sorted_alike order order' IsNamedAlike alike here.sorted
              (same_all IsNamedAlike named_apart same_so so_same (filter (is_in (length buckets) n) es) here.sorted here.same (keeps_fits IsNamedAlike (is_in (length buckets) n) es all)) here.ordered;
          hashes_are = here.hashes_are;
          decls_are = here.decls_are;
        };
  }

  pub names_stay : (es : List HashedDecl) (buckets : List HashedDecls) → All IsNamedAlike es → AreInBuckets (by_name old) es buckets → AreInBuckets (by_name new) es buckets
  names_stay es buckets all are = still_in_order (by_name old) (by_name new) (λ a b in_a in_b. names_alike old new a b in_a in_b) es buckets all are

  pub holders_stay : (es : List HashedDecl) (buckets : List HashedDecls) → All IsNamedAlike es → AreInBuckets (by_scope old) es buckets → AreInBuckets (by_scope new) es buckets
  holders_stay es buckets all are = still_in_order (by_scope old) (by_scope new) (λ a b in_a in_b. scopes_alike old new a b in_a in_b) es buckets all are
