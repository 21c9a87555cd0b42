use Rattle.std.proofs.Common.{◌∙◌, map}
use Rattle.lsp_rpc.specs.Diagnostic.{report_value, diagnostic_view}
use Rattle.lsp_rpc.specs.Message.{id_view}
use Rattle.lsp_rpc.proofs.ReplyLemmas.{whole_result}
use Rattle.lsp_rpc.proofs.WritingLemmas.{one, ◌▹◌}
use Rattle.lsp_rpc.proofs.reply.report_reply.Goals as goal

pub returns : goal.returns
returns c =
    c.into_inner.ensures.items
    ∙ whole_result (id_view c.args.id.now) (report_value (map diagnostic_view c.args.diagnostics.now)) (c.in_ok-out.ensures ▹ c.in_ok-write_report.ensures ▹ one c.in_ok-end_object.ensures)
