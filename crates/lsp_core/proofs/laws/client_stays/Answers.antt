use Rattle.lsp_core.proofs.ClientLemmas.{client-stays}
use Rattle.lsp_core.proofs.laws.client_stays.Goals as goal

pub returns : goal.returns
returns c = client-stays
