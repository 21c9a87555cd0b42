use Rattle.lsp_rpc.proofs.ClientLemmas as clients
use Rattle.lsp_rpc.proofs.laws.encodings.Goals as goal

pub returns : goal.returns
returns c = clients.encodings
