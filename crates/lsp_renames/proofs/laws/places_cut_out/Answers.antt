use Rattle.lsp_queries.proofs.Names.{named-stands_apart}
use Rattle.lsp_renames.proofs.CutPlaces.{places-cut_out}
use Rattle.lsp_renames.proofs.laws.places_cut_out.Goals as goal

pub returns : goal.returns
returns c = places-cut_out c.size_law.ensures.empty c.identifiers_law.ensures c.other_names_law.ensures.identifiers c.uses_in_order.ensures (named-stands_apart c.names_apart.ensures c.other_names_law.ensures.apart)
