use Rattle.lsp_renames.proofs.TakenLemmas.{taken-law}
use Rattle.lsp_renames.proofs.laws.taken_law.Goals as goal

pub returns : goal.returns
returns c = taken-law
