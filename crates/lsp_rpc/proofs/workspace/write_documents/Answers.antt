use Rattle.std.proofs.Common.{◌≡◌, take}
use Rattle.std.proofs.lemmas.List.{take_all}
use Rattle.lsp_rpc.proofs.WritingLemmas.{one, ◌▹◌}
use Rattle.lsp_rpc.proofs.ReportLemmas.{documents_tokens-closed}
use Rattle.lsp_rpc.proofs.workspace.write_documents.Goals as goal

pub returns : goal.returns
returns c =
    let all : take c.items.report-index c.args.reports.now ≡ c.args.reports.now = take_all _ _ c.items-test.false in
    one c.in_ok-begin_array.ensures ▹ (rw (all, documents_tokens-closed) at (c.items.invariant ▹ one c.in_ok-end_array.ensures))
