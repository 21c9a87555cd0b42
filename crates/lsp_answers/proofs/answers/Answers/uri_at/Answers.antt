use Rattle.std.proofs.Common.{ap, ◌∙◌}
use Rattle.work_files.specs.Files.{file_at}
use Rattle.lsp_answers.specs.Answers.{file_of}
use Rattle.lsp_answers.specs.Context.{Context}
use Rattle.lsp_answers.specs.Reports.{uri_of}
use Rattle.lsp_answers.proofs.answers.Answers.uri_at.Goals as goal

pub returns : goal.returns
returns c =
    let answers = c.args.self.now in
    let path = c.path.ensures ∙ ap (λ (a : Context). (file_of a.workspace c.args.file).0) c.self.view_is in
    c.in_ok-uri.ensures ∙ ap (λ p. uri_of answers.roots p (file_at p answers.files)) path
