use Rattle.std.proofs.Common.{◌≡◌, ◌∙◌, ◌<◌, ap, sym, refl, Some, slice_get, length, arith}
use Rattle.std.proofs.lemmas.List.{length-map}
use Rattle.std.specs.Option.{option_map}
use Rattle.std.proofs.lemmas.Option.{slice_get-map, slice_get_read}
use Rattle.work_index.specs.Workspace.{AnalysisData, Source, SourceAt, texts_of}
use Rattle.work_index.proofs.analysis.Analysis.text.Goals as goal

pub returns : goal.returns
returns c =
    let n = c.args.file in
    let files = c.self.inside.files.items in
    let there : n < length files = omega (arith, c.requires, length-map files (λ (f : SourceAt). f.0), ap (λ (a : AnalysisData). length a.paths) c.self.view_is) in
    let at : slice_get files n ≡ Some c.index.result.now = slice_get_read files (length files) n c.index.result.now refl there c.index.ensures in
    ap (λ (a : AnalysisData). slice_get (texts_of a.sources) n) (sym c.self.view_is)
    ∙ slice_get-map (λ (s : Source). s.text) _ n
    ∙ ap (option_map (λ (s : Source). s.text)) (slice_get-map (λ (f : SourceAt). f.1) files n ∙ ap (option_map (λ (f : SourceAt). f.1)) at)
    ∙ ap Some (sym c.text.ensures)
