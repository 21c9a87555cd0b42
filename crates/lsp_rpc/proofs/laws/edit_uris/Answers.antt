use Rattle.lsp_rpc.proofs.MergeLemmas as merges
use Rattle.lsp_rpc.proofs.laws.edit_uris.Goals as goal

pub returns : goal.returns
returns c = merges.edit_uris
