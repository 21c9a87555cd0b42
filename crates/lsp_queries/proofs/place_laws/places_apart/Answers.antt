use Rattle.lsp_queries.proofs.Names.{named-stands_apart}
use Rattle.lsp_queries.proofs.Places.{places-apart, places-within}
use Rattle.lsp_queries.proofs.place_laws.places_apart.Goals as goal

pub returns-clause-apart : goal.returns-clause-apart
returns-clause-apart c = places-apart c.uses_in_order.ensures (named-stands_apart c.names_apart.ensures c.other_names_law.ensures.apart)

pub returns-clause-within : goal.returns-clause-within
returns-clause-within c = places-within c.size_law.ensures.empty c.identifiers_law.ensures c.other_names_law.ensures.identifiers c.uses_in_order.ensures (named-stands_apart c.names_apart.ensures c.other_names_law.ensures.apart)
