-- Other texts of some files.
use Rattle.std.proofs.Common.{◌≡◌, ◌∙◌, ◌<◌, ℕ, zero, suc, ◌+◌, cond, List, [], ◌∷◌, ◌++◌, Some, None, Option, Bool, true, false, length, get_or, map, set, refl, sym, ap, ap₂, subst, arith, zero-add, length-append}
use Rattle.std.specs.Prelude.{◌==◌, All, Contains, find}
use Rattle.std.specs.List.{enumerate_from}
use Rattle.std.specs.Option.{option_map_or, option_or}
use Rattle.std.proofs.lemmas.Bool.{ne_eqb}
use Rattle.std.proofs.lemmas.Bool.Decides.{nat_tests}
use Rattle.std.proofs.lemmas.List.{get_or_append_left, length-map}
use Rattle.std.proofs.lemmas.List.Elements.{All-map, All-weaker}
use Rattle.std.proofs.lemmas.List.FromFn.{length-enumerate_from}
use Rattle.std.proofs.lemmas.List.Folds.{find-append}
use Rattle.std.proofs.lemmas.Simd.{map-map}
use Rattle.std.proofs.Math.Seq.{get_or-append_seam}
use Rattle.work_index.specs.declared.analysis.AnalysisParts.{AnalysisParts}
use Rattle.work_index.specs.AnalysisParts.{AreParts}
use Rattle.work_index.specs.Workspace.{AnalysisData, IsKnown, SourceAt, Workspace, all_facts, diagnostics_of, no_file, resolution_of, workspace_in}
use Rattle.work_meaning.specs.declared.edited.EditedText.{EditedText}
use Rattle.work_changes.specs.Changes.{StaysBut, WasKnown}
use Rattle.work_meaning.specs.Edited.{OthersStay, edit_view, text_after, with_text, with_texts}
use Rattle.work_changes.specs.declared.relinking.Outdated.{Outdated}

-- a file for which no text is there keeps its own
own_text : (edits : List (ℕ × List ℕ)) (n : ℕ) (text : List ℕ) → (Contains (map (λ e. e.0) edits) n → ⊥) → text_after edits n text ≡ text
own_text [] n text none = refl
own_text (e ∷ edits) n text none =
    ap (λ b. option_map_or (λ (e : ℕ × List ℕ). e.1) (cond b (Some e) (find (λ e. e.0 == n) edits)) text) (ne_eqb e.0 n (λ same. none (zero, omega arith, same)))
    ∙ own_text edits n text (λ more. none (suc more.0, omega (arith, more.1), more.2))

module _ (edits : List (ℕ × List ℕ)) where
  abbrev after : ℕ × SourceAt → SourceAt
  after e = (e.1.0, with_text e.1.1 (text_after edits e.0 e.1.1.text))

  paths_stay : (k : ℕ) (w : Workspace) → map (λ f. f.0) w ≡ map (λ f. f.0) (map after (enumerate_from k w))
  paths_stay k [] = refl
  paths_stay k (f ∷ w) = ap (λ l. f.0 ∷ l) (paths_stay (k + 1) w)

  abbrev Lacks : ℕ → Type 0
  Lacks n = Contains (map (λ e. e.0) edits) n → ⊥

  stay : (k : ℕ) (w : Workspace) (n : ℕ) → Lacks (k + n) → get_or w n no_file ≡ get_or (map after (enumerate_from k w)) n no_file
  stay k [] n none = refl
  stay k (f ∷ w) zero none =
      let here : k + 0 ≡ k = omega arith in
      ap (λ (text : List ℕ). (f.0, with_text f.1 text)) (sym (own_text edits k f.1.text (subst Lacks here none)))
  stay k (f ∷ w) (suc n) none = let next : k + suc n ≡ k + 1 + n = omega arith in stay (k + 1) w n (subst Lacks next none)

pub others_stay : OthersStay
others_stay edits w = record { paths = paths_stay edits 0 w; others = λ n none. stay edits 0 w n (subst (Lacks edits) (sym (zero-add n)) none) }

-- ---- texts one after the other

-- where the first of two lists has a text for a file, that one counts
pub text_of_two : (first second : List (ℕ × List ℕ)) (n : ℕ) (text : List ℕ) → text_after (first ++ second) n text ≡ text_after first n (text_after second n text)
text_of_two first second n text =
    ap (λ (o : Option (ℕ × List ℕ)). option_map_or (λ e. e.1) o text) (find-append (λ (e : ℕ × List ℕ). e.0 == n) first second)
    ∙ by (find (λ (e : ℕ × List ℕ). e.0 == n) first)
  where
    by : (o : Option (ℕ × List ℕ))
        → option_map_or (λ (e : ℕ × List ℕ). e.1) (option_or o (find (λ (e : ℕ × List ℕ). e.0 == n) second)) text ≡ option_map_or (λ (e : ℕ × List ℕ). e.1) o (text_after second n text)
    by None = refl
    by (Some e) = refl

module _ (first second : List (ℕ × List ℕ)) where
  two : (k : ℕ) (w : Workspace) → map (after (first ++ second)) (enumerate_from k w) ≡ map (after first) (enumerate_from k (map (after second) (enumerate_from k w)))
  two k [] = refl
  two k (f ∷ w) = ap₂ (λ (text : List ℕ) (rest : Workspace). (f.0, with_text f.1 text) ∷ rest) (text_of_two first second k f.1.text) (two (k + 1) w)

  pub texts_of_two : (w : Workspace) → with_texts (first ++ second) w ≡ with_texts first (with_texts second w)
  texts_of_two w = two 0 w

unchanged : (k : ℕ) (w : Workspace) → map (after []) (enumerate_from k w) ≡ w
unchanged k [] = refl
unchanged k (f ∷ w) = ap (λ (rest : Workspace). f ∷ rest) (unchanged (k + 1) w)

pub no_texts : (w : Workspace) → with_texts [] w ≡ w
no_texts w = unchanged 0 w

-- ---- a text for one file

same : (n : ℕ) → (n == n) ≡ true
same n = grind (arith, nat_tests)

differs : (n m : ℕ) → n < m → (n == m) ≡ false
differs n m lt = grind (arith, nat_tests)

module _ (file : ℕ) (text : List ℕ) where
  abbrev edit : List (ℕ × List ℕ)
  edit = (file, text) ∷ []

  -- the files behind it stay
  behind : (k : ℕ) (w : Workspace) → file < k → map (after edit) (enumerate_from k w) ≡ w
  behind k [] past = refl
  behind k (f ∷ w) past =
      ap₂ (λ (b : Bool) (rest : Workspace). (f.0, with_text f.1 (option_map_or (λ (e : ℕ × List ℕ). e.1) (cond b (Some (file, text)) None) f.1.text)) ∷ rest) (differs file k past) (behind (k + 1) w (omega (arith, past)))

  above : (n m : ℕ) → m < n → (n == m) ≡ false
  above n m lt = grind (arith, nat_tests)

  one : (k i : ℕ) (w : Workspace) → k + i ≡ file → i < length w → set w i (let f = get_or w i no_file in (f.0, with_text f.1 text)) ≡ map (after edit) (enumerate_from k w)
  one k i [] at there = absurd (omega (arith, there))
  one k zero (f ∷ w) at there =
      let here : file ≡ k = omega (arith, at) in
      let found : (file == k) ≡ true = ap (λ n. file == n) (sym here) ∙ same file in
      ap₂ (λ (g : SourceAt) (rest : Workspace). g ∷ rest)
      (ap (λ (b : Bool). (f.0, with_text f.1 (option_map_or (λ (e : ℕ × List ℕ). e.1) (cond b (Some (file, text)) None) f.1.text))) (sym found))
      (sym (behind (k + 1) w (omega (arith, here))))
  one k (suc i) (f ∷ w) at there =
      let past : k < file = omega (arith, at) in
      ap₂ (λ (g : SourceAt) (rest : Workspace). g ∷ rest)
      (ap (λ (b : Bool). (f.0, with_text f.1 (option_map_or (λ (e : ℕ × List ℕ). e.1) (cond b (Some (file, text)) None) f.1.text))) (sym (above file k past)))
      (one (k + 1) i w (omega (arith, at)) (omega (arith, there)))

  -- that text in the place of the file's
  pub one_text : (w later : Workspace) → file < length w → later ≡ set w file (let f = get_or w file no_file in (f.0, with_text f.1 text)) → later ≡ with_texts edit w
  one_text w later there put = put ∙ one 0 file w (zero-add file) there

-- ---- the files of the texts

-- the last one is taken, and there are as many texts as before
pub front : (edits rest : List EditedText) (last : EditedText) (old new : Workspace) → edits ≡ rest ++ last ∷ [] → length new ≡ length old → All (λ e. e.file < length old) edits → All (λ e. e.file < length new) rest
front edits rest last old new are count all = λ k d lt.
    let one : get_or edits k d ≡ get_or rest k d = ap (λ (es : List EditedText). get_or es k d) are ∙ get_or_append_left rest (last ∷ []) d k lt in
    let within : (let e = get_or edits k d in e.file) < length old = all k d (omega (arith, lt, ap length are, length-append rest (last ∷ []))) in
    let there : (let e = get_or rest k d in e.file) < length old = subst (λ (e : EditedText). e.file < length old) one within in
    omega (arith, there, count)

-- the last one is of a file that is there
pub last_of : (edits rest : List EditedText) (last : EditedText) (files : Workspace) → edits ≡ rest ++ last ∷ [] → All (λ e. e.file < length files) edits → last.file < length files
last_of edits rest last files are all =
    let at : get_or edits (length rest) last ≡ last = ap (λ (es : List EditedText). get_or es (length rest) last) are ∙ get_or-append_seam rest last [] last in
    let within : (let e = get_or edits (length rest) last in e.file) < length files = all (length rest) last (omega (arith, ap length are, length-append rest (last ∷ []))) in
    subst (λ (e : EditedText). e.file < length files) at within

-- the numbers of the files, as they stand beside the texts
pub numbers_are : (edits : List EditedText) → map (λ e. e.0) (map edit_view edits) ≡ map (λ e. e.file) edits
numbers_are edits = map-map (λ (e : ℕ × List ℕ). e.0) edit_view edits

-- there are as many files as before
pub as_many_files : (edits : List (ℕ × List ℕ)) (w : Workspace) → length (with_texts edits w) ≡ length w
as_many_files edits w = length-map (enumerate_from 0 w) (after edits) ∙ length-enumerate_from 0 w

-- what was known before the edits, of which the files are put over those that were there
pub before_edits : (o : Outdated) (w new : Workspace) (edits : List EditedText) (changed : List ℕ) → All (λ e. e.file < length w) edits → changed ≡ map (λ e. e.file) edits → new ≡ with_texts (map edit_view edits) w
    → o.table ≡ all_facts w → o.resolutions.links.items ≡ map (resolution_of w) (enumerate_from 0 w) → o.resolutions.diagnostics.items ≡ map (diagnostics_of w) (enumerate_from 0 w) → WasKnown o new changed
before_edits o w new edits changed there numbers are table links diagnostics =
    let es = map edit_view edits in
    let files : map (λ e. e.0) es ≡ changed = numbers_are edits ∙ sym numbers in
    let long : length new ≡ length w = ap length are ∙ as_many_files es w in
    record {
      old = w;
      stays = subst (λ (v : Workspace). StaysBut changed w v) (sym are) (subst (λ (fs : List ℕ). StaysBut fs w (with_texts es w)) files (others_stay es w));
      within = subst (All (λ f. f < length new)) (sym numbers) (All-map (λ f. f < length new) (λ (e : EditedText). e.file) edits (All-weaker (λ (e : EditedText). e.file < length w) (λ e. e.file < length new) (λ e lt. omega (arith, lt, long)) edits there));
      table = table;
      links = links;
      diagnostics = diagnostics;
    }

-- the files of a copy are those of the analysis
pub copied_files : (a copy : AnalysisData) (parts : AnalysisParts) → copy ≡ a → IsKnown copy → AreParts (workspace_in copy) parts → (parts.files.items ≡ workspace_in a) × (length parts.files.items ≡ length a.paths)
copied_files a copy parts same known are =
    let count : length copy.paths ≡ length (workspace_in copy) = ap (λ (b : AnalysisData). length b.paths) known.is ∙ length-map (workspace_in copy) (λ f. f.0) in
    (are.files ∙ ap workspace_in same, ap length are.files ∙ sym count ∙ ap (λ (b : AnalysisData). length b.paths) same)
