use Rattle.lsp_rpc.proofs.MessageLemmas as messages
use Rattle.lsp_rpc.proofs.laws.parse_errors.Goals as goal

pub returns : goal.returns
returns c = messages.parse_errors
