use Rattle.lsp_core.proofs.FilesLemmas.{session-order}
use Rattle.lsp_core.proofs.laws.files_are_in_path_order.Goals as goal

pub returns : goal.returns
returns c = session-order
