use Rattle.lsp_answers.proofs.PublicationLemmas.{publications_are_reports}
use Rattle.lsp_answers.proofs.laws.publications_agree_with_reports.Goals as goal

pub returns : goal.returns
returns c = publications_are_reports
