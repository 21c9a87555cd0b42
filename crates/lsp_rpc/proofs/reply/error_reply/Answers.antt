use Rattle.std.proofs.Common.{◌∙◌, option_map}
use Rattle.lsp_rpc.specs.Message.{id_view}
use Rattle.lsp_rpc.specs.Reply as reply
use Rattle.lsp_rpc.proofs.ReplyLemmas.{whole}
use Rattle.lsp_rpc.proofs.WritingLemmas.{one, ◌▹◌}
use Rattle.lsp_rpc.proofs.reply.error_reply.Goals as goal

pub returns : goal.returns
returns c =
    c.into_inner.ensures.items
    ∙ whole (reply.error_reply (option_map (λ i. id_view i.now) c.args.id) c.args.code)
    (c.new_text-out.ensures ▹ one c.in_ok-begin_object.ensures ▹ one c.in_ok-key.ensures ▹ c.in_ok-write_error.ensures ▹ one c.in_ok-key-2.ensures ▹ c.in_ok-write_id_or_null.ensures ▹ one c.in_ok-key-3.ensures ▹ one c.in_ok-string.ensures ▹ one c.in_ok-end_object.ensures)
