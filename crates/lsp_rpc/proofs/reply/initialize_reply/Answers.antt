use Rattle.std.proofs.Common.{◌∙◌}
use Rattle.lsp_rpc.specs.Initialize.{initialize_result}
use Rattle.lsp_rpc.specs.Message.{id_view}
use Rattle.lsp_rpc.proofs.ReplyLemmas.{whole_result}
use Rattle.lsp_rpc.proofs.WritingLemmas.{one, ◌▹◌}
use Rattle.lsp_rpc.proofs.reply.initialize_reply.Goals as goal

pub returns : goal.returns
returns c =
    c.into_inner.ensures.items
    ∙ whole_result (id_view c.args.id.now) (initialize_result c.args.encoding) (c.in_ok-out.ensures ▹ c.in_ok-write_initialize_result.ensures ▹ one c.in_ok-end_object.ensures)
