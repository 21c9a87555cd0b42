use Rattle.lsp_rpc.proofs.SymbolTexts as texts
use Rattle.lsp_rpc.proofs.laws.symbols_text.Goals as goal

pub returns : goal.returns
returns c = texts.symbols_text
