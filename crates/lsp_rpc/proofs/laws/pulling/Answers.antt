use Rattle.lsp_rpc.proofs.ClientLemmas as clients
use Rattle.lsp_rpc.proofs.laws.pulling.Goals as goal

pub returns : goal.returns
returns c = clients.pulling
