use Rattle.lsp_answers.proofs.ReportsLemmas.{reports_of_documents}
use Rattle.lsp_answers.proofs.laws.reports_agree_with_documents.Goals as goal

pub returns : goal.returns
returns c = reports_of_documents
