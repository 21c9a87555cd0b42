use Rattle.std.proofs.Common.{◌≡◌, rules, string_bytes}
use Rattle.lsp_rpc.proofs.ReportLemmas.{version-closed}
use Rattle.lsp_rpc.proofs.WritingLemmas.{one, ◌▹◌}
use Rattle.lsp_rpc.proofs.notification.write_published.Goals as goal

pub returns : goal.returns
returns c =
    let uri : c.as_str.result.now ≡ string_bytes c.args.report.now.uri = search rules in
    one c.in_ok-begin_object.ensures ▹ one c.in_ok-key.ensures ▹ (rw c.as_slice.ensures.value at c.in_ok-write_items.ensures) ▹ one c.in_ok-key-2.ensures
    ▹ (rw uri at (one c.in_ok-string.ensures)) ▹ (rw (version-closed c.args.report.now.version) at (c.in_ok-write_version.ensures ▹ one c.in_ok-end_object.ensures))
