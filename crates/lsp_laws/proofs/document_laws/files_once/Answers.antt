use Rattle.lsp_laws.proofs.Groups.{groups-are}
use Rattle.lsp_laws.proofs.document_laws.files_once.Goals as goal

pub returns : goal.returns
returns c = groups-are
