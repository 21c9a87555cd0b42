use Rattle.std.proofs.Common.{◌∙◌}
use Rattle.lsp_rpc.specs.Symbol.{symbols_value, all_symbols}
use Rattle.lsp_rpc.specs.Message.{id_view}
use Rattle.lsp_rpc.proofs.ReplyLemmas.{whole_result}
use Rattle.lsp_rpc.proofs.WritingLemmas.{one, ◌▹◌}
use Rattle.lsp_rpc.proofs.reply.symbols_reply.Goals as goal

pub returns : goal.returns
returns c =
    c.into_inner.ensures.items
    ∙ whole_result (id_view c.args.id.now) (symbols_value (all_symbols c.args.symbols.now)) (c.in_ok-out.ensures ▹ c.in_ok-write_symbols.ensures ▹ one c.in_ok-end_object.ensures)
