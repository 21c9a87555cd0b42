-- All declarations, after other facts were put in the place of one file's.
use Rattle.std.proofs.Common.{◌≡◌, ◌∙◌, sym, ap, subst, refl, inl, inr, ◌<◌, ◌≤◌, ◌+◌, ◌-◌, ℕ, zero, suc, List, [], ◌∷◌, ◌++◌, Bool, true, false, map, take, drop, Option, Result, Ok, get_or, set, length, arith}
use Rattle.std.specs.Prelude.{All, nat_le, nat_lt}
use Rattle.std.specs.Iterator.{Drains}
use Rattle.std.specs.List.{enumerate_from, flat_map, splice}
use Rattle.std.specs.List.Sorted.{IsPartitionedBy, IsPartitionPoint}
use Rattle.std.proofs.lemmas.Bool.{cases_eq, cases_lt}
use Rattle.std.proofs.lemmas.Bool.Decides.{nat_tests}
use Rattle.std.proofs.lemmas.Iterator.{YieldsList}
use Rattle.std.proofs.lemmas.Iterator.Adapters.{items_from_extend}
use Rattle.std.proofs.lemmas.List.{append_assoc, drop_all, get_or_append_left, get_or-append_right, get_or-map, get_or-set_same, length-append, length-map, length-set, take_all, take-append-le, drop-append-le}
use Rattle.std.proofs.lemmas.List.Elements.{All-append, All-nil, All-weaker}
use Rattle.std.proofs.lemmas.List.FromFn.{length-enumerate_from}
use Rattle.proto_decls.specs.declared.fact.Decl.{Decl}
use Rattle.proto_decls.specs.declared.fact.FileFacts.{FileFacts}
use Rattle.proto_decls.specs.declared.named_facts.NamedFacts.{NamedFacts}
use Rattle.proto_names.specs.declared.decl_ref.DeclRef.{DeclRef}
use Rattle.proto_names.specs.Changes.{HadDecls}
use Rattle.proto_names.specs.Files.{all_decls, decls_at, facts_at, no_facts, refs_of}
use Rattle.proto_names.specs.Outlines.{with_facts}
use Rattle.proto_names.proofs.Order.{files_from, numbered, refs, refs_from, IsFrom}

-- what an iterator gave is its list
pub drained : {S A : Type 0} {steps : S → Option A → S → Type 0} (s : S) (xs all : List A) → Drains steps s xs → YieldsList steps (λ x. x) s all → xs ≡ all
drained s xs all drains road =
    let fine : Result (Unit {0}) (Unit {0}) = Ok tt in
    sym (items_from_extend {P = λ ys. ys ≡ xs} fine (s, xs, refl, refl, drains) road)

-- ---- where a list turns from what passes a test to what fails it

module _ {X : Type 0} (p : X → Bool) (front rest : List X) (pass : All (λ x. p x ≡ true) front) (fail : All (λ x. p x ≡ false) rest) where
  passes_at : (i : ℕ) (d : X) → i < length front → p (get_or (front ++ rest) i d) ≡ true
  passes_at i d lt = rw (get_or_append_left front rest d i lt) (pass i d lt)

  fails_at : (i : ℕ) (d : X) → length front ≤ i → i < length (front ++ rest) → p (get_or (front ++ rest) i d) ≡ false
  fails_at i d le lt = rw (get_or-append_right front rest (length front) i d refl le) (fail (i - length front) d (omega (arith, le, lt, length-append front rest)))

  pub turns_once : IsPartitionedBy p (front ++ rest)
  turns_once i j d le lt e = elim (cases_lt i (length front)) [
    | inl before ↦ passes_at i d before
    | inr behind ↦ absurd (cc (e, fails_at j d (omega (arith, behind, le)) lt))
  ]

  pub turns_there : (i : ℕ) (d : X) → i ≤ length (front ++ rest) → IsPartitionPoint (λ x. p x ≡ true) (λ x. p x ≡ false) (front ++ rest) i → i ≡ length front
  turns_there i d within point = elim (cases_eq i (length front)) [
    | inl same ↦ same
    | inr other ↦ elim (cases_lt i (length front)) [
      | inl before ↦ absurd (cc (passes_at i d before, point.1 i d (omega arith) (omega (arith, before, length-append front rest))))
      | inr behind ↦ absurd (cc (fails_at (length front) d (omega arith) (omega (arith, behind, other, within)), point.0 (length front) d (omega arith) (omega (arith, behind, other))))
    ]
  ]

-- what stands for a declaration where there is none
pub no_decl_ref : DeclRef
no_decl_ref = record { file = 0; number = 0 }

-- tests of numbers
pub is_lower : (a b : ℕ) → a < b → nat_lt a b ≡ true
is_lower a b lt = grind (arith, nat_tests)

pub is_no_lower : (a b : ℕ) → b ≤ a → nat_lt a b ≡ false
is_no_lower a b le = grind (arith, nat_tests)

pub is_no_higher : (a b : ℕ) → a ≤ b → nat_le a b ≡ true
is_no_higher a b le = grind (arith, nat_tests)

pub is_higher : (a b : ℕ) → b < a → nat_le a b ≡ false
is_higher a b lt = grind (arith, nat_tests)

-- ---- the declarations of one file among all

-- those in front of a file's, and those behind them, stay
record Parted (f : ℕ) (before now : List Decl) (was is : List DeclRef) : Type 0 where
  front : List DeclRef
  rest : List DeclRef
  lower : All (λ r. r.file < f) front
  higher : All (λ r. f < r.file) rest
  were : was ≡ front ++ (refs_of f before ++ rest)
  are : is ≡ front ++ (refs_of f now ++ rest)

abbrev decls_in : NamedFacts → List Decl
decls_in file = let facts = file.facts in facts.decls

-- so do they in a list of which one file has other facts
parted_from : (n f : ℕ) (files : List NamedFacts) (x d : NamedFacts) → f < length files
    → Parted (n + f) (decls_in (get_or files f d)) (decls_in x) (flat_map refs (enumerate_from n files)) (flat_map refs (enumerate_from n (set files f x)))
parted_from n f [] x d lt = absurd (omega (arith, lt))
parted_from n zero (y ∷ files) x d lt =
    let here : n ≡ n + 0 = omega arith in
    subst (λ m. Parted m (decls_in y) (decls_in x) (flat_map refs (enumerate_from n (y ∷ files))) (flat_map refs (enumerate_from n (x ∷ files)))) here (record {
      front = [];
      rest = flat_map refs (enumerate_from (n + 1) files);
      lower = All-nil (λ r. r.file < n);
      higher = All-weaker (λ r. n + 1 ≤ r.file) (λ r. n < r.file) (λ r le. omega (arith, le)) (flat_map refs (enumerate_from (n + 1) files)) (files_from (n + 1) files);
      were = refl;
      are = refl;
    })
parted_from n (suc f) (y ∷ files) x d lt =
    let next : n + 1 + f ≡ n + suc f = omega arith in
    let those = parted_from (n + 1) f files x d (omega (arith, lt)) in
    subst (λ m. Parted m (decls_in (get_or files f d)) (decls_in x) (flat_map refs (enumerate_from n (y ∷ files))) (flat_map refs (enumerate_from n (y ∷ set files f x)))) next (record {
      front = refs_of n (decls_in y) ++ those.front;
      rest = those.rest;
      lower = All-append (λ r. r.file < n + 1 + f) (refs_of n (decls_in y)) those.front
          (All-weaker (IsFrom n 0) (λ r. r.file < n + 1 + f) (λ r there. omega (arith, there.0)) (refs_of n (decls_in y)) (refs_from n 0 (decls_in y))) those.lower;
      higher = those.higher;
      were = ap (λ rs. refs_of n (decls_in y) ++ rs) those.were ∙ sym (append_assoc (refs_of n (decls_in y)) those.front (refs_of (n + 1 + f) (decls_in (get_or files f d)) ++ those.rest));
      are = ap (λ rs. refs_of n (decls_in y) ++ rs) those.are ∙ sym (append_assoc (refs_of n (decls_in y)) those.front (refs_of (n + 1 + f) (decls_in x) ++ those.rest));
    })

-- as many declarations have the same references
same_count : (f n : ℕ) (a b : List Decl) → length a ≡ length b → map (numbered f) (enumerate_from n a) ≡ map (numbered f) (enumerate_from n b)
same_count f n [] [] same = refl
same_count f n [] (y ∷ b) same = absurd (omega (arith, same))
same_count f n (x ∷ a) [] same = absurd (omega (arith, same))
same_count f n (x ∷ a) (y ∷ b) same = rw (same_count f (n + 1) a b (omega (arith, same))) refl

-- and there are as many of these
refs_count : (f : ℕ) (decls : List Decl) → length (refs_of f decls) ≡ length decls
refs_count f decls = length-map (enumerate_from 0 decls) (numbered f) ∙ length-enumerate_from 0 decls

-- what stands between two fronts is replaced
pub spliced : (front mid rest own : List DeclRef) → splice (front ++ (mid ++ rest)) (length front) (length (front ++ mid)) own ≡ front ++ (own ++ rest)
spliced front mid rest own =
    let before : take (length front) (front ++ (mid ++ rest)) ≡ front = take-append-le (length front) front (mid ++ rest) (omega arith) ∙ take_all (length front) front (omega arith) in
    let behind : drop (length (front ++ mid)) (front ++ (mid ++ rest)) ≡ rest =
    ap (drop (length (front ++ mid))) (sym (append_assoc front mid rest)) ∙ drop-append-le (length (front ++ mid)) (front ++ mid) rest (omega arith)
    ∙ ap (λ rs. rs ++ rest) (drop_all (length (front ++ mid)) (front ++ mid) (omega arith)) in
    rw (before, behind) refl

-- what `start_of` and `end_of` say of a place
abbrev pub StartsAt : ℕ → List DeclRef → ℕ → Type 0
StartsAt f decls i = (front rest : List DeclRef) → decls ≡ front ++ rest → All (λ r. r.file < f) front → All (λ r. f ≤ r.file) rest → i ≡ length front

abbrev pub EndsAt : ℕ → List DeclRef → ℕ → Type 0
EndsAt f decls j = (front rest : List DeclRef) → decls ≡ front ++ rest → All (λ r. r.file ≤ f) front → All (λ r. f < r.file) rest → j ≡ length front

module _ (f : ℕ) (before now : List Decl) (was is : List DeclRef) (parted : Parted f before now was is) (i j : ℕ) (start : StartsAt f was i) (end : EndsAt f was j) where
  starts : i ≡ length parted.front
  starts = start parted.front (refs_of f before ++ parted.rest) parted.were parted.lower
      (All-append (λ r. f ≤ r.file) (refs_of f before) parted.rest
      (All-weaker (IsFrom f 0) (λ r. f ≤ r.file) (λ r there. omega (arith, there.0)) (refs_of f before) (refs_from f 0 before))
      (All-weaker (λ r. f < r.file) (λ r. f ≤ r.file) (λ r lt. omega (arith, lt)) parted.rest parted.higher))

  ends : j ≡ length (parted.front ++ refs_of f before)
  ends = end (parted.front ++ refs_of f before) parted.rest (parted.were ∙ sym (append_assoc parted.front (refs_of f before) parted.rest))
      (All-append (λ r. r.file ≤ f) parted.front (refs_of f before)
      (All-weaker (λ r. r.file < f) (λ r. r.file ≤ f) (λ r lt. omega (arith, lt)) parted.front parted.lower)
      (All-weaker (IsFrom f 0) (λ r. r.file ≤ f) (λ r there. omega (arith, there.0)) (refs_of f before) (refs_from f 0 before)))
      parted.higher

  in_order : i ≤ j
  in_order = omega (arith, starts, ends, length-append parted.front (refs_of f before))

  inside : j ≤ length was
  inside = omega (arith, ends, ap length parted.were, length-append parted.front (refs_of f before), length-append parted.front (refs_of f before ++ parted.rest), length-append (refs_of f before) parted.rest)

  stay : length now ≡ j - i → was ≡ is
  stay same =
      let as_many : length before ≡ length now = omega (arith, same, starts, ends, length-append parted.front (refs_of f before), refs_count f before) in
      parted.were ∙ ap (λ rs. parted.front ++ (rs ++ parted.rest)) (same_count f 0 before now as_many) ∙ sym parted.are

  come : splice was i j (refs_of f now) ≡ is
  come = ap (λ rs. splice rs i j (refs_of f now)) parted.were
      ∙ ap (λ k. splice (parted.front ++ (refs_of f before ++ parted.rest)) k j (refs_of f now)) starts
      ∙ ap (λ k. splice (parted.front ++ (refs_of f before ++ parted.rest)) (length parted.front) k (refs_of f now)) ends
      ∙ spliced parted.front (refs_of f before) parted.rest (refs_of f now)
      ∙ sym parted.are

-- ---- other facts of a file

module _ (files : List NamedFacts) (f : ℕ) (decls : List DeclRef) (had : HadDecls files f decls) (i j : ℕ) (start : StartsAt f decls i) (end : EndsAt f decls j) where
  nothing : NamedFacts
  nothing = record { path = []; facts = no_facts }

  file_now : NamedFacts
  file_now = record { path = get_or (map (λ (file : NamedFacts). file.path) had.old) f []; facts = had.changed.facts }

  facts_now : facts_at files f ≡ had.changed.facts
  unfolding file_now
  facts_now = ap (λ fs. facts_at fs f) had.changed.files_are
      ∙ get_or-map (λ (file : NamedFacts). file.facts) (set had.old f file_now) f nothing no_facts (omega (arith, had.changed.within, length-set had.old f file_now))
      ∙ ap (λ (file : NamedFacts). file.facts) (get_or-set_same had.old f file_now nothing had.changed.within)

  all_parted : Parted f (decls_in (get_or had.old f nothing)) (decls_at files f) decls (all_decls files)
  unfolding file_now
  all_parted =
      let first : 0 + f ≡ f = omega arith in
      let there = subst (λ m. Parted m (decls_in (get_or had.old f nothing)) (decls_in file_now) (all_decls had.old) (all_decls (with_facts had.old f had.changed.facts))) first (parted_from 0 f had.old file_now nothing had.changed.within) in
      subst (λ ds. Parted f (decls_in (get_or had.old f nothing)) ds decls (all_decls files)) (ap (λ (facts : FileFacts). facts.decls) (sym facts_now))
      (subst (λ ds. Parted f (decls_in (get_or had.old f nothing)) (decls_in file_now) ds (all_decls files)) (sym had.were)
      (subst (λ fs. Parted f (decls_in (get_or had.old f nothing)) (decls_in file_now) (all_decls had.old) (all_decls fs)) (sym had.changed.files_are) there))

  pub decls_are : (file : NamedFacts) → decls_at files f ≡ (let there = get_or files f file in decls_in there)
  unfolding file_now
  decls_are file = ap (λ (facts : FileFacts). facts.decls) (get_or-map (λ (x : NamedFacts). x.facts) files f file no_facts (omega (arith, had.changed.within, ap length had.changed.files_are, length-set had.old f file_now)))

  pub ends_behind : i ≤ j
  ends_behind = in_order f (decls_in (get_or had.old f nothing)) (decls_at files f) decls (all_decls files) all_parted i j start end

  pub ends_within : j ≤ length decls
  ends_within = inside f (decls_in (get_or had.old f nothing)) (decls_at files f) decls (all_decls files) all_parted i j start end

  pub as_many : length (decls_at files f) ≡ j - i → decls ≡ all_decls files
  as_many = stay f (decls_in (get_or had.old f nothing)) (decls_at files f) decls (all_decls files) all_parted i j start end

  pub others_come : splice decls i j (refs_of f (decls_at files f)) ≡ all_decls files
  others_come = come f (decls_in (get_or had.old f nothing)) (decls_at files f) decls (all_decls files) all_parted i j start end
