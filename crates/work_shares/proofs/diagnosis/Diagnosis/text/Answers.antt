use Rattle.std.proofs.Common.{◌≡◌, ◌∙◌, ◌<◌, ap, sym, refl, Some, slice_get, length, arith}
use Rattle.std.proofs.lemmas.List.{length-map}
use Rattle.std.specs.Option.{option_map}
use Rattle.std.proofs.lemmas.Option.{slice_get-map, slice_get_read}
use Rattle.piece_collector.specs.Views.{TextAt}
use Rattle.work_index.specs.Workspace.{Source, texts_of}
use Rattle.work_shares.specs.Diagnosis.{DiagnosisData}
use Rattle.work_shares.proofs.diagnosis.Diagnosis.text.Goals as goal

pub returns : goal.returns
returns c =
    let n = c.args.file in
    let pieces = c.self.inside.pieces.items in
    let source_of : TextAt → Source = λ p. record { text = p.text; reads_others = c.self.inside.reads_others } in
    let there : n < length pieces = omega (arith, c.requires, length-map pieces (λ (p : TextAt). p.path), ap (λ (a : DiagnosisData). length a.paths) c.self.view_is) in
    let at : slice_get pieces n ≡ Some c.index.result.now = slice_get_read pieces (length pieces) n c.index.result.now refl there c.index.ensures in
    ap (λ (d : DiagnosisData). slice_get (texts_of d.sources) n) (sym c.self.view_is)
    ∙ slice_get-map (λ (s : Source). s.text) _ n
    ∙ ap (option_map (λ (s : Source). s.text)) (slice_get-map source_of pieces n ∙ ap (option_map source_of) at)
    ∙ ap Some (sym c.text.ensures)
