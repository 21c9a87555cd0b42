-- All declarations of files, before and after another file came to them.
use Rattle.std.proofs.Common.{◌≡◌, ◌∙◌, sym, ap, subst, refl, ◌<◌, ◌≤◌, ◌+◌, ℕ, zero, suc, List, [], ◌∷◌, ◌++◌, append_assoc, append-nil, map, length, arith}
use Rattle.std.specs.Prelude.{All}
use Rattle.std.specs.List.{enumerate_from, flat_map, insert, splice}
use Rattle.std.proofs.lemmas.List.{get_or-map, length-append, map-append}
use Rattle.std.proofs.lemmas.List.Edits.{get_or-insert_at, length-insert}
use Rattle.std.proofs.lemmas.List.Elements.{All-append, All-nil, All-weaker}
use Rattle.proto_decls.specs.declared.fact.Decl.{Decl}
use Rattle.proto_decls.specs.declared.fact.FileFacts.{FileFacts}
use Rattle.proto_decls.specs.declared.named_facts.NamedFacts.{NamedFacts}
use Rattle.proto_names.specs.declared.moving.Change.TheVariants.{Comes}
use Rattle.proto_names.specs.declared.decl_ref.DeclRef.{DeclRef}
use Rattle.proto_names.specs.Changes.{HadOtherDecls}
use Rattle.proto_names.specs.Files.{all_decls, decls_at, no_facts, refs_of}
use Rattle.proto_names.specs.Moved.{moved}
use Rattle.proto_names.proofs.ChangedDecls.{spliced, StartsAt}
use Rattle.proto_names.proofs.Entries.{all_within, decls_behind}
use Rattle.proto_names.proofs.MovedFiles.{moved_before, moved_from, nobody}
use Rattle.proto_names.proofs.Order.{files_from, refs, refs_from, IsFrom}

abbrev decls_in : NamedFacts → List Decl
decls_in file = let facts = file.facts in facts.decls

-- those in front of the file that came stay, and those behind it get its place's new numbers
record MakesWay (f : ℕ) (own : List Decl) (was is : List DeclRef) : Type 0 where
  front : List DeclRef
  rest : List DeclRef
  lower : All (λ r. r.file < f) front
  behind : All (λ r. f ≤ r.file) rest
  were : was ≡ front ++ rest
  are : is ≡ front ++ (refs_of f own ++ map (moved Comes f) rest)

way_from : (n k : ℕ) (files : List NamedFacts) (x : NamedFacts) → k ≤ length files
    → MakesWay (n + k) (decls_in x) (flat_map refs (enumerate_from n files)) (flat_map refs (enumerate_from n (insert files k x)))
way_from n zero files x within =
    let here : n ≡ n + 0 = omega arith in
    let next : n + 1 ≡ 1 + n = omega arith in
    let those : List DeclRef = flat_map refs (enumerate_from n files) in
    subst (λ m. MakesWay m (decls_in x) those (flat_map refs (enumerate_from n (x ∷ files)))) here (record {
      front = [];
      rest = those;
      lower = All-nil (λ r. r.file < n);
      behind = files_from n files;
      were = refl;
      are = ap (λ ds. refs (n, x) ++ ds) (ap (λ m. flat_map refs (enumerate_from m files)) next ∙ decls_behind 1 n files ∙ sym (moved_from n those (files_from n files)));
    })
way_from n (suc k) [] x within = absurd (omega (arith, within))
way_from n (suc k) (y ∷ files) x within =
    let next : n + 1 + k ≡ n + suc k = omega arith in
    let own : List DeclRef = refs (n, y) in
    let those = way_from (n + 1) k files x (omega (arith, within)) in
    subst (λ m. MakesWay m (decls_in x) (flat_map refs (enumerate_from n (y ∷ files))) (flat_map refs (enumerate_from n (y ∷ insert files k x)))) next (record {
      front = own ++ those.front;
      rest = those.rest;
      lower = All-append (λ r. r.file < n + 1 + k) own those.front
          (All-weaker (IsFrom n 0) (λ r. r.file < n + 1 + k) (λ r there. omega (arith, there.0)) own (refs_from n 0 (decls_in y))) those.lower;
      behind = those.behind;
      were = ap (λ rs. own ++ rs) those.were ∙ sym (append_assoc own those.front those.rest);
      are = ap (λ rs. own ++ rs) those.are ∙ sym (append_assoc own those.front (refs_of (n + 1 + k) (decls_in x) ++ map (moved Comes (n + 1 + k)) those.rest));
    })

-- the file that came has its own declarations
own_decls : (others : List NamedFacts) (k : ℕ) (file : NamedFacts) → k ≤ length others → decls_at (insert others k file) k ≡ decls_in file
own_decls others k file within =
    let long = length-insert others k file within in
    ap (λ (facts : FileFacts). facts.decls)
    (get_or-map (λ (x : NamedFacts). x.facts) (insert others k file) k nobody no_facts (omega (arith, within, long)) ∙ ap (λ (x : NamedFacts). x.facts) (get_or-insert_at others k file nobody within))

-- no number changes where all are in front
pub all_before : (k count : ℕ) (decls : List DeclRef) → count ≤ k + 1 → All (λ r. r.file + 1 < count) decls → map (moved Comes k) decls ≡ decls
all_before k count decls last small = moved_before k decls (All-weaker (λ r. r.file + 1 < count) (λ r. r.file < k) (λ r lt. omega (arith, lt, last)) decls small)

module _ (files : List NamedFacts) (k : ℕ) (decls : List DeclRef) (had : HadOtherDecls files k decls) where
  way : MakesWay k (decls_at files k) decls (all_decls files)
  way =
      let came = had.came in
      let first : 0 + k ≡ k = omega arith in
      let there = subst (λ m. MakesWay m (decls_in came.file) (all_decls had.others) (all_decls (insert had.others k came.file))) first (way_from 0 k had.others came.file came.within) in
      let own : decls_in came.file ≡ decls_at files k = sym (own_decls had.others k came.file came.within) ∙ ap (λ fs. decls_at fs k) (sym came.files_are) in
      subst (λ ds. MakesWay k ds decls (all_decls files)) own
      (subst (λ ds. MakesWay k (decls_in came.file) ds (all_decls files)) (sym had.were)
      (subst (λ fs. MakesWay k (decls_in came.file) (all_decls had.others) (all_decls fs)) (sym came.files_are) there))

  -- the numbers of the other files are small
  pub are_small : All (λ r. r.file + 1 < length files) decls
  are_small =
      let came = had.came in
      let long = length-insert had.others k came.file came.within in
      let same : length files ≡ length (insert had.others k came.file) = ap length came.files_are in
      subst (λ ds. All (λ r. r.file + 1 < length files) ds) (sym had.were)
      (All-weaker (λ r. r.file < length had.others) (λ r. r.file + 1 < length files) (λ r lt. omega (arith, lt, long, same)) (all_decls had.others) (all_within had.others))

  module _ (i : ℕ) (start : StartsAt k decls i) (now : List DeclRef) (renumbered : now ≡ map (moved Comes k) decls) where
    starts : i ≡ length (let w = way in w.front)
    starts = start (let w = way in w.front) (let w = way in w.rest) (let w = way in w.were) (let w = way in w.lower) (let w = way in w.behind)

    apart : now ≡ (let w = way in w.front) ++ map (moved Comes k) (let w = way in w.rest)
    apart =
        let w = way in
        renumbered ∙ ap (map (moved Comes k)) w.were ∙ map-append (moved Comes k) w.front w.rest ∙ ap (λ rs. rs ++ map (moved Comes k) w.rest) (moved_before k w.front w.lower)

    pub starts_within : i ≤ length now
    starts_within =
        let w = way in
        omega (arith, starts, ap length apart, length-append w.front (map (moved Comes k) w.rest))

    pub own_come : splice now i i (refs_of k (decls_at files k)) ≡ all_decls files
    own_come =
        let w = way in
        let behind : List DeclRef = map (moved Comes k) w.rest in
        let own : List DeclRef = refs_of k (decls_at files k) in
        ap (λ rs. splice rs i i own) apart
        ∙ ap (λ m. splice (w.front ++ behind) m i own) starts
        ∙ ap (λ m. splice (w.front ++ behind) (length w.front) m own) (starts ∙ ap length (sym (append-nil w.front)))
        ∙ spliced w.front [] behind own
        ∙ sym w.are
