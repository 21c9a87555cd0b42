use Rattle.lsp_rpc.proofs.MessageLemmas as messages
use Rattle.lsp_rpc.proofs.laws.notifications.Goals as goal

pub returns : goal.returns
returns c = messages.notifications
