use Rattle.lsp_rpc.proofs.TextLemmas as texts
use Rattle.lsp_rpc.proofs.laws.publication_text.Goals as goal

pub returns : goal.returns
returns c = texts.publication_text
