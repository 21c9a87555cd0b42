use Rattle.lsp_rpc.proofs.MessageLemmas as messages
use Rattle.lsp_rpc.proofs.laws.requests.Goals as goal

pub returns : goal.returns
returns c = messages.requests
