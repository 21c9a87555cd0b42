use Rattle.std.proofs.Common.{◌≡◌, take}
use Rattle.std.proofs.lemmas.List.{take_all}
use Rattle.lsp_rpc.proofs.WritingLemmas.{one, ◌▹◌}
use Rattle.lsp_rpc.proofs.ReportLemmas.{items_tokens-closed}
use Rattle.lsp_rpc.proofs.diagnostic.write_items.Goals as goal

pub returns : goal.returns
returns c =
    let all : take c.items.diagnostic-index c.args.diagnostics.now ≡ c.args.diagnostics.now = take_all _ _ c.items-test.false in
    one c.in_ok-begin_array.ensures ▹ (rw (all, items_tokens-closed) at (c.items.invariant ▹ one c.in_ok-end_array.ensures))
