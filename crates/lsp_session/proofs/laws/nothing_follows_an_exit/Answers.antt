use Rattle.lsp_session.proofs.ServingLemmas.{nothing_follows}
use Rattle.lsp_session.proofs.laws.nothing_follows_an_exit.Goals as goal

pub returns : goal.returns
returns c = nothing_follows
