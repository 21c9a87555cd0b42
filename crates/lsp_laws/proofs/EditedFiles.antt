-- The workspace that the documents of a rename make, each in its own file.
use Rattle.std.proofs.Common.{◌≡◌, ◌⊎◌, ◌∙◌, inl, inr, ℕ, suc, ◌+◌, ◌<◌, Bool, true, false, cond, List, [], ◌∷◌, length, get_or, map, Some, refl, sym, ap, ap₂, subst, arith, IsUtf8, zero-add}
use Rattle.std.specs.Prelude.{All, Contains, ◌==◌, ◌≢◌, find}
use Rattle.std.specs.List.{enumerate_from}
use Rattle.std.specs.Option.{option_map_or}
use Rattle.std.proofs.lemmas.Bool.{eqb-false, eqb-true}
use Rattle.std.proofs.lemmas.List.{get_or_default}
use Rattle.std.proofs.lemmas.List.Elements.{All-contains, All-head, All-map, All-tail}
use Rattle.doc_text.specs.declared.position.Range.{Range}
use Rattle.proto_laws.proofs.Holders.{cases_in}
use Rattle.work_index.specs.Workspace.{SourceAt, analysis, no_file}
use Rattle.work_index.proofs.Known.{known_workspace}
use Rattle.work_meaning.specs.Bindings.{SameMeaning}
use Rattle.work_meaning.specs.Edited.{with_text}
use Rattle.lsp_renames.specs.Edited.{edited, places_in, respelled}
use Rattle.lsp_queries.specs.Offsets.{symbol_at}
use Rattle.lsp_queries.specs.PlaceLaws.{PlacesLieInTheTexts, text_in}
use Rattle.lsp_renames.specs.Renaming.{KeepsMeaning, analysis_after}
use Rattle.lsp_renames.specs.RenamingLaws.{RenamesKeepMeaning}
use Rattle.lsp_queries.specs.declared.place.Place.{Place}
use Rattle.lsp_answers.specs.Answers.{DocumentPlaceData, document_of}
use Rattle.lsp_answers.specs.Context.{Context}
use Rattle.work_laws.specs.EditLaws.{changed_from_the_last}
use Rattle.work_laws.proofs.Renames.{renamed-places}
use Rattle.lsp_laws.specs.DocumentLaws.{AreByFile, AreRespelled, IsRespelled, EditTheWorkspace, RenamesEditTheWorkspace, RenamesRespellDocuments, changes_with, ranges_of, with_new_name}
use Rattle.lsp_laws.proofs.Groups.{none_in}

abbrev Group : Type 0
Group = ℕ × List Place

-- functions that agree at each numbered element
pub numbered : {X Y : Type 0} (f g : ℕ × X → Y) (k : ℕ) (xs : List X) → ((i : ℕ) (d : X) → i < length xs → f (k + i, get_or xs i d) ≡ g (k + i, get_or xs i d)) → map f (enumerate_from k xs) ≡ map g (enumerate_from k xs)
numbered f g k [] agree = refl
numbered f g k (x ∷ xs) agree =
    let here : k + 0 ≡ k = omega arith in
    ap₂ (λ y ys. y ∷ ys) (sym (ap (λ n. f (n, x)) here) ∙ agree 0 x (omega arith) ∙ ap (λ n. g (n, x)) here)
    (numbered f g (k + 1) xs (λ i d lt. let next : k + suc i ≡ k + 1 + i = omega arith in sym (ap (λ n. f (n, get_or xs i d)) next) ∙ agree (suc i) d (omega (arith, lt)) ∙ ap (λ n. g (n, get_or xs i d)) next))

-- ---- one file

-- where none of the groups is the file's there is no place in it
abbrev AreAll : List Place → ℕ → List Group → Type 0
AreAll places n groups = (Contains (map (λ g. g.0) groups) n → ⊥) → places_in n places ≡ []

all-of_groups : (places : List Place) (n : ℕ) (groups : List Group) → AreByFile places groups → AreAll places n groups
all-of_groups places n groups by none =
    none_in n places (λ k d lt same. none (subst (λ m. Contains (map (λ g. g.0) groups) m) same (by.all k d lt)))

all-of_rest : (places : List Place) (n : ℕ) (g : Group) (gs : List Group) → g.0 ≢ n → AreAll places n (g ∷ gs) → AreAll places n gs
all-of_rest places n g gs differ all none = all (λ inside. by (cases_in g.0 (map (λ g. g.0) gs) n inside))
  where
    by : (g.0 ≡ n) ⊎ Contains (map (λ g. g.0) gs) n → ⊥
    by (inl same) = differ same
    by (inr more) = none more

module _ (c : Context) (new_name : List ℕ) (places : List Place) (n : ℕ) where
  abbrev made : List Range → List ℕ
  made ranges = changed_from_the_last c.encoding (changes_with new_name ranges) (text_in c.workspace n)

  -- the text of the file after its edits
  file-made : (gs : List Group) → All (IsRespelled c new_name places) gs → AreAll places n gs → made (ranges_of c gs n) ≡ respelled new_name (text_in c.workspace n) (places_in n places)
  file-made [] is all = sym (ap (respelled new_name (text_in c.workspace n)) (all (λ inside. absurd (omega (arith, inside.1)))))
  file-made (g ∷ gs) is all = by (g.0 == n) refl (λ differ. file-made gs (All-tail (IsRespelled c new_name places) g gs is) (all-of_rest places n g gs differ all))
    where
      own : IsRespelled c new_name places g
      own = All-head (IsRespelled c new_name places) g gs is

      by : (b : Bool) → (g.0 == n) ≡ b → (g.0 ≢ n → made (ranges_of c gs n) ≡ respelled new_name (text_in c.workspace n) (places_in n places))
          → made (option_map_or (λ (g : Group). let d : List ℕ × List Range = document_of c g in d.1) (cond b (Some g) (find (λ g. g.0 == n) gs)) []) ≡ respelled new_name (text_in c.workspace n) (places_in n places)
      by true here rest =
          let same = eqb-true g.0 n here in
          let d : List ℕ × List Range = document_of c g in
          ap (λ m. changed_from_the_last c.encoding (changes_with new_name d.1) (text_in c.workspace m)) (sym same)
          ∙ own.edits
          ∙ ap (respelled new_name (text_in c.workspace g.0)) own.all_places
          ∙ ap (λ m. respelled new_name (text_in c.workspace m) (places_in m places)) same
      by false other rest = rest (eqb-false g.0 n other)

-- ---- all files

module _ (c : Context) (at : DocumentPlaceData) (new_name : List ℕ) (documents : List (List ℕ × List Range)) (h : AreRespelled c at new_name documents) where
  abbrev made_of : ℕ × SourceAt → SourceAt
  made_of e = (e.1.0, with_text e.1.1 (changed_from_the_last c.encoding (changes_with new_name (ranges_of c h.groups e.0)) e.1.1.text))

  abbrev spelled_of : ℕ × SourceAt → SourceAt
  spelled_of e = (e.1.0, with_text e.1.1 (respelled new_name e.1.1.text (places_in e.0 h.places)))

  files-spelled : with_new_name c new_name (ranges_of c h.groups) ≡ edited new_name h.places c.workspace
  files-spelled = numbered made_of spelled_of 0 c.workspace (λ i d lt. at_file i d lt)
    where
      at_file : (i : ℕ) (d : SourceAt) → i < length c.workspace → made_of (0 + i, get_or c.workspace i d) ≡ spelled_of (0 + i, get_or c.workspace i d)
      at_file i d lt =
          let here : SourceAt = get_or c.workspace i no_file in
          let file : get_or c.workspace i d ≡ here = get_or_default c.workspace i d no_file lt in
          let own = file-made c new_name h.places i h.groups h.edited (all-of_groups h.places i h.groups h.by_files) in
          subst (λ f. made_of (0 + i, f) ≡ spelled_of (0 + i, f)) (sym file)
          (subst (λ n. made_of (n, here) ≡ spelled_of (n, here)) (sym (zero-add i)) (ap (λ text. (here.0, with_text here.1 text)) own))

  kept : KeepsMeaning (analysis c.workspace) h.places new_name → SameMeaning (analysis c.workspace) (analysis (edited new_name h.places c.workspace))
  unfolding analysis_after
  kept keeps = subst (λ w. SameMeaning (analysis c.workspace) (analysis (edited new_name h.places w))) (known_workspace c.workspace) keeps

  documents-edit : All (λ file. IsUtf8 file.1.text) c.workspace → RenamesKeepMeaning → PlacesLieInTheTexts → EditTheWorkspace c at new_name documents
  documents-edit utf8 keep within =
      let rename = renamed-places c.workspace (symbol_at (analysis c.workspace) h.asked at.offset) new_name h.places h.answered in
      let inside : All (λ p. p.file < length c.workspace) h.places =
      subst (All (λ p. p.file < length c.workspace)) rename.2 (λ k d lt. (within c.workspace rename.1 true utf8 k d lt).there) in
      record {
        respelled = h;
        there = λ k d lt. All-contains (λ n. n < length c.workspace) (map (λ p. p.file) h.places) (get_or h.groups k d).0
            (All-map (λ n. n < length c.workspace) (λ p. p.file) h.places inside) (h.by_files.only k d lt);
        after = record {
          spelled = files-spelled;
          keeps = subst (λ after. SameMeaning (analysis c.workspace) (analysis after)) (sym files-spelled) (kept (keep (analysis c.workspace) h.asked at.offset new_name h.places h.answered));
        };
      }

pub files-edited : RenamesRespellDocuments → RenamesKeepMeaning → PlacesLieInTheTexts → RenamesEditTheWorkspace
files-edited respell keep within c at new_name documents utf8 given = documents-edit c at new_name documents (respell c at new_name documents utf8 given) utf8 keep within
