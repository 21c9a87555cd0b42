use Rattle.lsp_renames.proofs.RenamingLemmas.{identifier-form-law}
use Rattle.lsp_renames.proofs.laws.identifier_form_law.Goals as goal

pub returns : goal.returns
returns c = identifier-form-law
