-- Texts for the files in which there are places.
use Rattle.std.proofs.Common.{◌≡◌, ◌∙◌, ℕ, suc, ◌+◌, ◌<◌, Bool, true, false, cond, List, [], ◌∷◌, Some, length, get_or, map, refl, sym, ap, ap₂, subst, arith, zero-add}
use Rattle.std.specs.Prelude.{All, ◌==◌, find, slice_index_or}
use Rattle.std.specs.List.{enumerate_from}
use Rattle.std.specs.Option.{option_map_or}
use Rattle.std.proofs.lemmas.Bool.{eqb-true}
use Rattle.std.proofs.lemmas.List.{get_or-map, get_or_default}
use Rattle.std.proofs.lemmas.List.Elements.{All-cons, All-head, All-map, All-nil, All-tail}
use Rattle.std.proofs.lemmas.Slice.Zip.{get_or-zip, length-zip}
use Rattle.work_meaning.specs.Edited.{edit_view, text_after, with_text, with_texts}
use Rattle.work_meaning.specs.declared.edited.EditedText.{EditedText}
use Rattle.lsp_queries.specs.declared.place.Place.{Place}
use Rattle.lsp_renames.specs.Edited.{edited, places_in, respelled}
use Rattle.lsp_renames.specs.ByFile.{behind, by_file, later}
use Rattle.lsp_renames.specs.Cutting.{AreCutOut, edits_of}
use Rattle.work_index.specs.Workspace.{AnalysisData, Source, SourceAt, no_file, texts_of, workspace_in}
use Rattle.lsp_renames.proofs.Groups.{group_at, groups-are}
use Rattle.lsp_queries.proofs.Pairs.{from_map}

-- the text of a file among those of some groups
text-of_group : (name : List ℕ) (texts : List (List ℕ)) (n : ℕ) (gs : List (ℕ × List Place))
    → text_after (map (λ g. (g.0, respelled name (slice_index_or texts g.0 []) g.1)) gs) n (slice_index_or texts n []) ≡ respelled name (slice_index_or texts n []) (group_at n gs)
text-of_group name texts n [] = refl
text-of_group name texts n (g ∷ gs) = by (g.0 == n) refl (text-of_group name texts n gs)
  where
    edit : ℕ × List Place → ℕ × List ℕ
    edit g = (g.0, respelled name (slice_index_or texts g.0 []) g.1)

    by : (b : Bool) → (g.0 == n) ≡ b
        → text_after (map (λ g. (g.0, respelled name (slice_index_or texts g.0 []) g.1)) gs) n (slice_index_or texts n []) ≡ respelled name (slice_index_or texts n []) (group_at n gs)
        → option_map_or (λ (e : ℕ × List ℕ). e.1) (cond b (Some (g.0, respelled name (slice_index_or texts g.0 []) g.1)) (find (λ e. e.0 == n) (map (λ g. (g.0, respelled name (slice_index_or texts g.0 []) g.1)) gs))) (slice_index_or texts n [])
        ≡ respelled name (slice_index_or texts n []) (option_map_or (λ (g : ℕ × List Place). g.1) (cond b (Some g) (find (λ g. g.0 == n) gs)) [])
    by true is rest = ap (λ k. respelled name (slice_index_or texts k []) g.1) (eqb-true g.0 n is)
    by false is rest = rest

-- functions that agree at each numbered element
map-enumerated : {X Y : Type 0} (f g : ℕ × X → Y) (k : ℕ) (xs : List X) → ((i : ℕ) (d : X) → i < length xs → f (k + i, get_or xs i d) ≡ g (k + i, get_or xs i d)) → map f (enumerate_from k xs) ≡ map g (enumerate_from k xs)
map-enumerated f g k [] agree = refl
map-enumerated f g k (x ∷ xs) agree =
    let here : k + 0 ≡ k = omega arith in
    ap₂ (λ y ys. y ∷ ys) (sym (ap (λ n. f (n, x)) here) ∙ agree 0 x (omega arith) ∙ ap (λ n. g (n, x)) here)
    (map-enumerated f g (k + 1) xs (λ i d lt. let next : k + suc i ≡ k + 1 + i = omega arith in sym (ap (λ n. f (n, get_or xs i d)) next) ∙ agree (suc i) d (omega (arith, lt)) ∙ ap (λ n. g (n, get_or xs i d)) next))

abbrev IsText : AnalysisData → List ℕ → List Place → ℕ → Source → Type 0
IsText a name places i s = text_after (edits_of name (texts_of a.sources) places) i s.text ≡ respelled name s.text (places_in i places)

-- texts for the files in which there are places make the workspace with the name at all places
pub edits-law : (a : AnalysisData) (name : List ℕ) (places : List Place) → AreCutOut a places → with_texts (edits_of name (texts_of a.sources) places) (workspace_in a) ≡ edited name places (workspace_in a)
edits-law a name places are =
    map-enumerated (λ e. (e.1.0, with_text e.1.1 (text_after (edits_of name (texts_of a.sources) places) e.0 e.1.1.text))) (λ e. (e.1.0, with_text e.1.1 (respelled name e.1.1.text (places_in e.0 places)))) 0 (workspace_in a)
    (λ i d lt. let file = get_or (workspace_in a) i d in ap (λ t. (file.0, with_text file.1 t)) (at i d lt))
  where
    none : Source
    none = record { text = []; reads_others = false }

    is-text : (i : ℕ) → i < length a.sources → IsText a name places i (get_or a.sources i none)
    is-text i there =
        let texts = texts_of a.sources in
        subst (λ t. text_after (edits_of name texts places) i t ≡ respelled name t (places_in i places)) (get_or-map (λ s. s.text) a.sources i none [] there)
        (text-of_group name texts i (by_file places) ∙ ap (respelled name (get_or texts i [])) (groups-are i places (λ j k d lt within. (are.ordered j k d lt within).files)))

    at : (i : ℕ) (d : SourceAt) → i < length (workspace_in a) → IsText a name places (0 + i) (get_or (workspace_in a) i d).1
    at i d lt =
        let there : i < length a.paths = omega (arith, length-zip a.paths a.sources, lt) in
        let there' : i < length a.sources = omega (arith, length-zip a.paths a.sources, lt) in
        let first : get_or (workspace_in a) i d ≡ (get_or a.paths i [], get_or a.sources i none) = get_or_default (workspace_in a) i d no_file lt ∙ get_or-zip a.paths a.sources i no_file there there' in
        subst (λ (f : SourceAt). IsText a name places (0 + i) f.1) (sym first) (subst (λ n. IsText a name places n (get_or a.sources i none)) (sym (zero-add i)) (is-text i there'))

-- ---- the files of the texts

later-all : (P : ℕ → Type 0) (file : ℕ) (gs : List (ℕ × List Place)) → All (λ g. P g.0) gs → All (λ g. P g.0) (later file gs)
later-all P file [] all = all
later-all P file (g ∷ gs) all = by (g.0 == file)
  where
    by : (b : Bool) → All (λ g. P g.0) (cond {A = List (ℕ × List Place)} b gs (g ∷ gs))
    by true = All-tail (λ g. P g.0) g gs all
    by false = all

by_file-all : (P : ℕ → Type 0) (ps : List Place) → All (λ p. P p.file) ps → All (λ g. P g.0) (by_file ps)
by_file-all P [] all = All-nil (λ g. P g.0)
by_file-all P (p ∷ ps) all =
    All-cons (λ g. P g.0) (p.file, p ∷ behind p.file (by_file ps)) (later p.file (by_file ps)) (All-head (λ p. P p.file) p ps all)
    (later-all P p.file (by_file ps) (by_file-all P ps (All-tail (λ p. P p.file) p ps all)))

-- the files of the texts are files of the places
pub edits-there : (a : AnalysisData) (name : List ℕ) (places : List Place) (edits : List EditedText) → AreCutOut a places → map edit_view edits ≡ edits_of name (texts_of a.sources) places → All (λ e. e.file < length a.paths) edits
edits-there a name places edits are is =
    from_map (λ e. e.0 < length a.paths) edit_view edits
    (subst (All (λ e. e.0 < length a.paths)) (sym is) (All-map (λ e. e.0 < length a.paths) (λ g. (g.0, respelled name (slice_index_or (texts_of a.sources) g.0 []) g.1)) (by_file places) (by_file-all (λ n. n < length a.paths) places are.there)))
