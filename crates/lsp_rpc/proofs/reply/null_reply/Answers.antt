use Rattle.std.proofs.Common.{◌∙◌}
use Rattle.serde_json.specs.Data.{null}
use Rattle.lsp_rpc.specs.Message.{id_view}
use Rattle.lsp_rpc.proofs.ReplyLemmas.{whole_result}
use Rattle.lsp_rpc.proofs.WritingLemmas.{one, ◌▹◌}
use Rattle.lsp_rpc.proofs.reply.null_reply.Goals as goal

pub returns : goal.returns
returns c =
    c.into_inner.ensures.items ∙ whole_result (id_view c.args.id.now) null (c.in_ok-out.ensures ▹ c.in_ok-write_null.ensures ▹ one c.in_ok-end_object.ensures)
