use Rattle.std.proofs.Common.{ap, ◌∙◌}
use Rattle.work_index.specs.Workspace.{analysis, diags_at}
use Rattle.lsp_answers.specs.Context.{Context}
use Rattle.lsp_answers.specs.Diagnostics.{placed}
use Rattle.lsp_answers.specs.Reports.{document_text}
use Rattle.lsp_answers.proofs.answers.Answers.document_diagnostics.Goals as goal

pub returns : goal.returns
returns c =
    let answers = c.args.self.now in
    let path = c.args.path.now in
    let encoding = ap (λ (a : Context). a.encoding) c.self.view_is in
    let diags = c.diagnostics_at-diags.ensures ∙ ap (λ (a : Context). diags_at (analysis a.workspace) path) c.self.view_is in
    c.in_ok-found.ensures ∙ ap (λ e. placed e c.document_text-text.result.now c.diagnostics_at-diags.result.now) encoding
    ∙ ap (λ t. placed answers.encoding t c.diagnostics_at-diags.result.now) c.document_text-text.ensures ∙ ap (placed answers.encoding (document_text answers path)) diags
