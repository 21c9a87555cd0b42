use Rattle.std.proofs.Common.{◌<◌, ◌∙◌, arith, get_or, length, ap}
use Rattle.work_index.specs.Workspace.{Workspace, no_file, workspace_in}
use Rattle.work_index.proofs.OfAnalysis.{as_many, sources_are, text_of_file}
use Rattle.work_index.proofs.snapshot.Snapshot.text.Goals as goal

pub returns-then-file-file_count : goal.returns-then-file-file_count
returns-then-file-file_count c =
    let a = c.self.inside.analysis.now in
    let known = c.self.invariant in
    let there : c.args.file < length (workspace_in a) = omega (arith, c.if-file-file_count.true, c.file_count.ensures, as_many a known) in
    text_of_file a.sources (workspace_in a) c.args.file c.text.result.now (sources_are a known) there c.text.ensures ∙ ap (λ (w : Workspace). (get_or w c.args.file no_file).1.text) c.self.view_is
