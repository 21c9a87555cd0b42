use Rattle.lsp_rpc.proofs.SymbolTexts as texts
use Rattle.lsp_rpc.proofs.laws.locations_text.Goals as goal

pub returns : goal.returns
returns c = texts.locations_text
