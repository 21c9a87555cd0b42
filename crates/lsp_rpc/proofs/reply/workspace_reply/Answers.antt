use Rattle.std.proofs.Common.{◌∙◌, map}
use Rattle.lsp_rpc.specs.Workspace.{workspace_value, document_view}
use Rattle.lsp_rpc.specs.Message.{id_view}
use Rattle.lsp_rpc.proofs.ReplyLemmas.{whole_result}
use Rattle.lsp_rpc.proofs.WritingLemmas.{one, ◌▹◌}
use Rattle.lsp_rpc.proofs.reply.workspace_reply.Goals as goal

pub returns : goal.returns
returns c =
    c.into_inner.ensures.items
    ∙ whole_result (id_view c.args.id.now) (workspace_value (map document_view c.args.reports.now)) (c.in_ok-out.ensures ▹ c.in_ok-write_workspace.ensures ▹ one c.in_ok-end_object.ensures)
