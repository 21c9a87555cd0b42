use Rattle.lsp_rpc.proofs.MergeLemmas as merges
use Rattle.lsp_rpc.proofs.laws.edit_ranges.Goals as goal

pub returns : goal.returns
returns c = merges.edit_ranges
