use Rattle.lsp_renames.proofs.RenamingLemmas.{full-name-scope-law}
use Rattle.lsp_renames.proofs.laws.full_name_scope_law.Goals as goal

pub returns : goal.returns
returns c = full-name-scope-law
