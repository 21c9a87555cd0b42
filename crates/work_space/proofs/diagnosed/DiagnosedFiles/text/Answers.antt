use Rattle.std.proofs.Common.{◌≡◌, ◌<◌, ◌∙◌, length, map, ap}
use Rattle.work_index.specs.Workspace.{Workspace}
use Rattle.work_index.proofs.OfAnalysis.{text_of_file}
use Rattle.work_shares.specs.Diagnosis.{DiagnosisData}
use Rattle.work_space.proofs.diagnosed.DiagnosedFiles.text.Goals as goal

pub returns-then-file-file_count : goal.returns-then-file-file_count
returns-then-file-file_count c =
    let d = c.self.inside.diagnosis in
    let w = c.args.self.now in
    let there : c.args.file < length w = rw c.file_count.ensures at c.if-file-file_count.true in
    let are : d.sources ≡ map (λ f. f.1) w = ap (λ (x : DiagnosisData). x.sources) c.self.invariant ∙ ap (λ (v : Workspace). map (λ f. f.1) v) c.self.view_is in
    text_of_file d.sources w c.args.file c.text.result.now are there c.text.ensures
