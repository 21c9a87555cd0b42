use Rattle.std.proofs.Common.{◌∷◌, ◌++◌, [], map, sym, ap, ap₂, ◌∙◌, arith}
use Rattle.std.proofs.lemmas.List.{map-append}
use Rattle.lsp_rpc.specs.Workspace.{document_view}
use Rattle.lsp_answers.specs.Reports.{numbered_report}
use Rattle.lsp_answers.proofs.ReportsLemmas.{reports-more}
use Rattle.lsp_answers.proofs.answers.Answers.workspace_reports.Goals as goal

pub loop-number-preserved : goal.loop-number-preserved
loop-number-preserved c =
    let at = c.loop-number in
    let answers = c.args.self.now in
    ap (map document_view) c.in_ok-push.ensures.items ∙ map-append document_view at.reports.items (c.in_ok-numbered_report.field-0 ∷ []) ∙ ap₂ (λ a b. a ++ b ∷ []) at.invariant c.in_ok-numbered_report.ensures
    ∙ sym (reports-more (numbered_report answers) answers.workspace at.number (omega (arith, c.loop-number-test.true, c.file_count-number-end.ensures)))
