-- The declarations and the entries of files with one more, and of those without it.
use Rattle.std.proofs.Common.{◌≡◌, ◌≢◌, ◌∙◌, sym, ap, ap₂, subst, refl, inl, inr, ◌<◌, ◌≤◌, ◌+◌, ◌-◌, ℕ, zero, suc, List, [], ◌∷◌, ◌++◌, true, false, not, map, filter, get_or, length, arith}
use Rattle.std.specs.Prelude.{All, nat_lt}
use Rattle.std.specs.List.{enumerate_from, flat_map, insert, remove}
use Rattle.std.specs.Ordering.{nat_cmp}
use Rattle.std.proofs.lemmas.Bool.{cases_eq, cases_lt}
use Rattle.std.proofs.lemmas.Bool.Decides.{nat_tests}
use Rattle.std.proofs.lemmas.List.{map-append}
use Rattle.std.proofs.lemmas.List.Edits.{get_or-insert_above, get_or-insert_below}
use Rattle.std.proofs.lemmas.List.Elements.{All-head, All-tail, All-weaker, filter-append}
use Rattle.proto_decls.specs.declared.fact.Decl.{Decl}
use Rattle.proto_decls.specs.declared.fact.FileFacts.{FileFacts}
use Rattle.proto_decls.specs.declared.named_facts.NamedFacts.{NamedFacts}
use Rattle.proto_names.specs.declared.hashed.HashedDecl.{HashedDecl}
use Rattle.proto_names.specs.declared.moving.Change.TheVariants.{Comes, Leaves}
use Rattle.proto_names.specs.declared.decl_ref.DeclRef.{DeclRef}
use Rattle.proto_names.specs.Entries.{renumbered}
use Rattle.proto_names.specs.Files.{all_decls, decl_at, facts_at, no_decl, no_facts, name_at}
use Rattle.proto_names.specs.Moved.{moved, number_after, with_moved}
use Rattle.proto_names.specs.Tables.{by_name, by_scope}
use Rattle.proto_names.proofs.Entries.{decls_behind}
use Rattle.proto_names.proofs.Hashes.{keeps_all, read_mapped}
use Rattle.proto_names.proofs.Order.{files_from, refs, refs_from, IsFrom}
use Rattle.proto_names.proofs.Replaced.{another, is_elsewhere, none_else}
use Rattle.proto_names.proofs.Search.{above, below, same}

-- ---- numbers

less_holds : (a b : ℕ) → a < b → nat_lt a b ≡ true
less_holds a b lt = grind (arith, nat_tests)

less_fails : (a b : ℕ) → b ≤ a → nat_lt a b ≡ false
less_fails a b le = grind (arith, nat_tests)

pub before_it : (at n : ℕ) → n < at → number_after Comes at n ≡ n
before_it at n lt = rw (less_holds n at lt) refl

pub from_it : (at n : ℕ) → at ≤ n → number_after Comes at n ≡ n + 1
from_it at n le = rw (less_fails n at le) refl

pub up_to_it : (at n : ℕ) → n ≤ at → number_after Leaves at n ≡ n
up_to_it at n le = rw (less_fails at n le) refl

pub behind_it : (at n : ℕ) → at < n → number_after Leaves at n ≡ n - 1
behind_it at n lt = rw (less_holds at n lt) refl

pub back_again : (at n : ℕ) → number_after Leaves at (number_after Comes at n) ≡ n
back_again at n = elim (cases_lt n at) [
  | inl lt ↦ rw (before_it at n lt) (up_to_it at n (omega (arith, lt)))
  | inr le ↦ rw (from_it at n le) (behind_it at (n + 1) (omega (arith, le)) ∙ omega arith)
]

pub and_back : (at n : ℕ) → n ≢ at → number_after Comes at (number_after Leaves at n) ≡ n
and_back at n other = elim (cases_lt at n) [
  | inl lt ↦ rw (behind_it at n lt) (from_it at (n - 1) (omega (arith, lt)) ∙ omega (arith, lt))
  | inr le ↦ elim (cases_eq n at) [
    | inl equal ↦ absurd (other equal)
    | inr apart ↦ rw (up_to_it at n le) (before_it at n (omega (arith, le, apart)))
  ]
]

pub one_more_at_most : (at n : ℕ) → number_after Comes at n ≤ n + 1
one_more_at_most at n = elim (cases_lt n at) [
  | inl lt ↦ rw (before_it at n lt) (omega arith)
  | inr le ↦ rw (from_it at n le) (omega arith)
]

pub rises : (at a b : ℕ) → a < b → number_after Comes at a < number_after Comes at b
rises at a b less = elim (cases_lt b at) [
  | inl lt ↦ rw (before_it at b lt, before_it at a (omega (arith, lt, less))) less
  | inr le ↦ rw (from_it at b le) (let most = one_more_at_most at a in omega (arith, most, less))
]

-- the order of numbers stays
pub ordered_alike : (at a b : ℕ) → nat_cmp (number_after Comes at a) (number_after Comes at b) ≡ nat_cmp a b
ordered_alike at a b = elim (cases_lt a b) [
  | inl less ↦ below (number_after Comes at a) (number_after Comes at b) (rises at a b less) ∙ sym (below a b less)
  | inr le ↦ elim (cases_eq a b) [
    | inl equal ↦ ap (λ n. nat_cmp (number_after Comes at a) (number_after Comes at n)) (sym equal) ∙ same (number_after Comes at a) ∙ sym (same a) ∙ ap (nat_cmp a) equal
    | inr apart ↦
        let more : b < a = omega (arith, le, apart) in
        above (number_after Comes at a) (number_after Comes at b) (rises at b a more) ∙ sym (above a b more)
  ]
]

pub ordered_back : (at a b : ℕ) → a ≢ at → b ≢ at → nat_cmp (number_after Leaves at a) (number_after Leaves at b) ≡ nat_cmp a b
ordered_back at a b other other' =
    sym (ordered_alike at (number_after Leaves at a) (number_after Leaves at b)) ∙ ap₂ nat_cmp (and_back at a other) (and_back at b other')

pub moved_back : (at : ℕ) (r : DeclRef) → moved Leaves at (moved Comes at r) ≡ r
moved_back at r = ap (λ n. record { file = n; number = r.number }) (back_again at r.file)

pub moved_again : (at : ℕ) (r : DeclRef) → r.file ≢ at → moved Comes at (moved Leaves at r) ≡ r
moved_again at r other = ap (λ n. record { file = n; number = r.number }) (and_back at r.file other)

-- ---- what the declarations of the other files are

abbrev pub nobody : NamedFacts
nobody = record { path = []; facts = no_facts }

read_facts : (files : List NamedFacts) (n : ℕ) → facts_at files n ≡ (let file = get_or files n nobody in file.facts)
read_facts files n = read_mapped (λ (file : NamedFacts). file.facts) files n nobody

-- of files with one more
module _ (files : List NamedFacts) (at : ℕ) (file : NamedFacts) (within : at ≤ length files) where
  abbrev more : List NamedFacts
  more = insert files at file

  facts_moved : (n : ℕ) → facts_at more (number_after Comes at n) ≡ facts_at files n
  facts_moved n =
      read_facts more (number_after Comes at n)
      ∙ ap (λ (x : NamedFacts). x.facts) (elim (cases_lt n at) [
        | inl lt ↦ ap (λ k. get_or more k nobody) (before_it at n lt) ∙ get_or-insert_below files at file nobody n lt within
        | inr le ↦ ap (λ k. get_or more k nobody) (from_it at n le) ∙ get_or-insert_above files at file nobody n le within
      ])
      ∙ sym (read_facts files n)

  pub decl_moved : (r : DeclRef) → decl_at more (moved Comes at r) ≡ decl_at files r
  decl_moved r = ap (λ (facts : FileFacts). get_or facts.decls r.number no_decl) (facts_moved r.file)

  pub name_moved : (r : DeclRef) → name_at more (moved Comes at r) ≡ name_at files r
  name_moved r = ap (λ (d : Decl). d.full_name) (decl_moved r)

  pub name_moved_back : (r : DeclRef) → r.file ≢ at → name_at files (moved Leaves at r) ≡ name_at more r
  name_moved_back r other = sym (name_moved (moved Leaves at r)) ∙ ap (name_at more) (moved_again at r other)

  -- ---- the orders

  pub names_come : (a b : HashedDecl) → by_name (name_at more) (with_moved Comes at a) (with_moved Comes at b) ≡ by_name (name_at files) a b
  names_come a b = rw (name_moved a.decl, name_moved b.decl, ordered_alike at (let r = a.decl in r.file) (let r = b.decl in r.file)) refl

  pub scopes_come : (a b : HashedDecl) → by_scope (name_at more) (with_moved Comes at a) (with_moved Comes at b) ≡ by_scope (name_at files) a b
  scopes_come a b = rw (name_moved a.decl, name_moved b.decl) refl

  pub names_leave : (a b : HashedDecl) → (let r = a.decl in r.file) ≢ at → (let r = b.decl in r.file) ≢ at → by_name (name_at files) (with_moved Leaves at a) (with_moved Leaves at b) ≡ by_name (name_at more) a b
  names_leave a b other other' = rw (name_moved_back a.decl other, name_moved_back b.decl other', ordered_back at (let r = a.decl in r.file) (let r = b.decl in r.file) other other') refl

  pub scopes_leave : (a b : HashedDecl) → (let r = a.decl in r.file) ≢ at → (let r = b.decl in r.file) ≢ at → by_scope (name_at files) (with_moved Leaves at a) (with_moved Leaves at b) ≡ by_scope (name_at more) a b
  scopes_leave a b other other' = rw (name_moved_back a.decl other, name_moved_back b.decl other') refl

-- ---- all declarations of the other files

pub moved_from : (at : ℕ) (rs : List DeclRef) → All (λ r. at ≤ r.file) rs → map (moved Comes at) rs ≡ map (renumbered 1) rs
moved_from at [] all = refl
moved_from at (r ∷ rs) all =
    let number : number_after Comes at r.file ≡ 1 + r.file = from_it at r.file (All-head (λ r. at ≤ r.file) r rs all) ∙ omega arith in
    ap₂ (λ (n : ℕ) (ss : List DeclRef). record { file = n; number = r.number } ∷ ss) number (moved_from at rs (All-tail (λ r. at ≤ r.file) r rs all))

pub moved_before : (at : ℕ) (rs : List DeclRef) → All (λ r. r.file < at) rs → map (moved Comes at) rs ≡ rs
moved_before at [] all = refl
moved_before at (r ∷ rs) all =
    ap₂ (λ (n : ℕ) (ss : List DeclRef). record { file = n; number = r.number } ∷ ss) (before_it at r.file (All-head (λ r. r.file < at) r rs all))
    (moved_before at rs (All-tail (λ r. r.file < at) r rs all))

others_stay : (at : ℕ) (rs : List DeclRef) → All (λ r. r.file ≢ at) rs → filter (another at) rs ≡ rs
others_stay at rs all = keeps_all (another at) rs (All-weaker (λ r. r.file ≢ at) (λ r. another at r ≡ true) (λ r other. ap not (is_elsewhere r.file at other)) rs all)

others_come : (n at : ℕ) (files : List NamedFacts) (file : NamedFacts) → at ≤ length files
    → filter (another (n + at)) (flat_map refs (enumerate_from n (insert files at file))) ≡ map (moved Comes (n + at)) (flat_map refs (enumerate_from n files))
others_come n zero files file within =
    let here : n + 0 ≡ n = omega arith in
    let next : n + 1 ≡ 1 + n = omega arith in
    let behind : List DeclRef = flat_map refs (enumerate_from (n + 1) files) in
    rw here (
    filter-append (another n) (refs (n, file)) behind
    ∙ ap₂ (λ (rs ss : List DeclRef). rs ++ ss) (none_else n (let facts = file.facts in facts.decls))
    (others_stay n behind (All-weaker (λ r. n + 1 ≤ r.file) (λ r. r.file ≢ n) (λ r from e. omega (arith, from, e)) behind (files_from (n + 1) files)))
    ∙ ap (λ k. flat_map refs (enumerate_from k files)) next ∙ decls_behind 1 n files
    ∙ sym (moved_from n (flat_map refs (enumerate_from n files)) (files_from n files))
    )
others_come n (suc at) [] file within = absurd (omega (arith, within))
others_come n (suc at) (y ∷ files) file within =
    let next : n + suc at ≡ n + 1 + at = omega arith in
    let own : List DeclRef = refs (n, y) in
    let before : All (λ r. r.file < n + 1 + at) own = All-weaker (IsFrom n 0) (λ r. r.file < n + 1 + at) (λ r there. omega (arith, there.0)) own (refs_from n 0 (let facts = y.facts in facts.decls)) in
    rw next (
    filter-append (another (n + 1 + at)) own (flat_map refs (enumerate_from (n + 1) (insert files at file)))
    ∙ ap₂ (λ (rs ss : List DeclRef). rs ++ ss)
    (others_stay (n + 1 + at) own (All-weaker (λ r. r.file < n + 1 + at) (λ r. r.file ≢ n + 1 + at) (λ r lt e. omega (arith, lt, e)) own before) ∙ sym (moved_before (n + 1 + at) own before))
    (others_come (n + 1) at files file (omega (arith, within)))
    ∙ sym (map-append (moved Comes (n + 1 + at)) own (flat_map refs (enumerate_from (n + 1) files)))
    )

pub others_moved : (files : List NamedFacts) (at : ℕ) (file : NamedFacts) → at ≤ length files → filter (another at) (all_decls (insert files at file)) ≡ map (moved Comes at) (all_decls files)
others_moved files at file within =
    let first : 0 + at ≡ at = omega arith in
    subst (λ n. filter (another n) (all_decls (insert files at file)) ≡ map (moved Comes n) (all_decls files)) first (others_come 0 at files file within)

-- ---- files without one of them

pub put_back : {X : Type 0} (xs : List X) (i : ℕ) (d : X) → i < length xs → insert (remove xs i) i (get_or xs i d) ≡ xs
put_back [] i d lt = absurd (omega (arith, lt))
put_back (x ∷ xs) zero d lt = refl
put_back (x ∷ xs) (suc i) d lt = ap (λ l. x ∷ l) (put_back xs i d (omega (arith, lt)))

pub read_moved : (files : List NamedFacts) (at : ℕ) (file : NamedFacts) (n : ℕ) (d : NamedFacts) → at ≤ length files → get_or (insert files at file) (number_after Comes at n) d ≡ get_or files n d
read_moved files at file n d within = elim (cases_lt n at) [
  | inl lt ↦ ap (λ k. get_or (insert files at file) k d) (before_it at n lt) ∙ get_or-insert_below files at file d n lt within
  | inr le ↦ ap (λ k. get_or (insert files at file) k d) (from_it at n le) ∙ get_or-insert_above files at file d n le within
]
