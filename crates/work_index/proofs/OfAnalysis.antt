-- The workspace of an analysis, file by file.
use Rattle.std.proofs.Common.{◌≡◌, ◌<◌, ◌∙◌, ℕ, List, [], Some, length, get_or, map, sym, ap}
use Rattle.std.specs.List.{slice_get}
use Rattle.std.proofs.lemmas.List.{length-map, get_or-map}
use Rattle.std.proofs.lemmas.Option.{get_or_from_slice_get}
use Rattle.std.proofs.lemmas.Simd.{map-map}
use Rattle.work_index.specs.Workspace.{AnalysisData, IsKnown, Source, SourceAt, Workspace, no_file, texts_of, workspace_in}

-- the text of a file by its number, among the texts of all
pub text_of_file : (sources : List Source) (w : Workspace) (n : ℕ) (text : List ℕ) → sources ≡ map (λ f. f.1) w → n < length w → slice_get (texts_of sources) n ≡ Some text → text ≡ (get_or w n no_file).1.text
text_of_file sources w n text are there at =
    let texts : texts_of sources ≡ map (λ (f : SourceAt). f.1.text) w = ap texts_of are ∙ map-map (λ (s : Source). s.text) (λ (f : SourceAt). f.1) w in
    sym (get_or_from_slice_get (texts_of sources) n text [] at) ∙ ap (λ (ts : List (List ℕ)). get_or ts n []) texts ∙ get_or-map (λ (f : SourceAt). f.1.text) w n no_file [] there

module _ (a : AnalysisData) (known : IsKnown a) where
  abbrev w : Workspace
  w = workspace_in a

  pub paths_are : a.paths ≡ map (λ f. f.0) w
  paths_are = ap (λ (x : AnalysisData). x.paths) known.is

  pub sources_are : a.sources ≡ map (λ f. f.1) w
  sources_are = ap (λ (x : AnalysisData). x.sources) known.is

  pub as_many : length a.paths ≡ length w
  as_many = ap length paths_are ∙ length-map w (λ f. f.0)
