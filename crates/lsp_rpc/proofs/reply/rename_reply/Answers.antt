use Rattle.std.proofs.Common.{◌∙◌, map}
use Rattle.lsp_rpc.specs.WorkspaceEdit.{workspace_edit_value, document_ranges}
use Rattle.lsp_rpc.specs.Message.{id_view}
use Rattle.lsp_rpc.proofs.ReplyLemmas.{whole_result}
use Rattle.lsp_rpc.proofs.WritingLemmas.{one, ◌▹◌}
use Rattle.lsp_rpc.proofs.reply.rename_reply.Goals as goal

pub returns : goal.returns
returns c =
    c.into_inner.ensures.items
    ∙ whole_result (id_view c.args.id.now) (workspace_edit_value c.args.new_text.now (map document_ranges c.args.documents.items)) (c.in_ok-out.ensures ▹ c.in_ok-write_workspace_edit.ensures ▹ one c.in_ok-end_object.ensures)
