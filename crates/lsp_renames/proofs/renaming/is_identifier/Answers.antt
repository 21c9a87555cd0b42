use Rattle.lsp_renames.proofs.RenamingLemmas.{identifier-answered}
use Rattle.lsp_renames.proofs.renaming.is_identifier.Goals as goal

pub returns : goal.returns
returns c = identifier-answered c.args.name.now c.is_identifier.result c.is_identifier.ensures
