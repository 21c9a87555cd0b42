use Rattle.std.proofs.Common.{◌∙◌}
use Rattle.lsp_rpc.specs.Location.{locations_value, all_locations}
use Rattle.lsp_rpc.specs.Message.{id_view}
use Rattle.lsp_rpc.proofs.ReplyLemmas.{whole_result}
use Rattle.lsp_rpc.proofs.WritingLemmas.{one, ◌▹◌}
use Rattle.lsp_rpc.proofs.reply.locations_reply.Goals as goal

pub returns : goal.returns
returns c =
    c.into_inner.ensures.items
    ∙ whole_result (id_view c.args.id.now) (locations_value (all_locations c.args.places.now)) (c.in_ok-out.ensures ▹ c.in_ok-write_locations.ensures ▹ one c.in_ok-end_object.ensures)
