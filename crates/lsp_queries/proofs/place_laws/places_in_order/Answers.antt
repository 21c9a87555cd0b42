use Rattle.lsp_queries.proofs.Names.{named-stands_apart}
use Rattle.lsp_queries.proofs.Places.{places-ascend}
use Rattle.lsp_queries.proofs.place_laws.places_in_order.Goals as goal

pub returns : goal.returns
returns c = places-ascend c.uses_in_order.ensures (named-stands_apart c.names_apart.ensures c.other_names_law.ensures.apart)
