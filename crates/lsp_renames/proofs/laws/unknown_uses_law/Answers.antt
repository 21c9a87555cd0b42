use Rattle.lsp_renames.proofs.UnknownUses.{unknown-uses-law}
use Rattle.lsp_renames.proofs.laws.unknown_uses_law.Goals as goal

pub returns : goal.returns
returns c = unknown-uses-law
