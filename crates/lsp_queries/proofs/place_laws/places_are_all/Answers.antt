use Rattle.lsp_queries.proofs.AllPlaces.{one-list, places-all}
use Rattle.lsp_queries.proofs.place_laws.places_are_all.Goals as goal

pub returns-clause-all : goal.returns-clause-all
returns-clause-all c = places-all

pub returns-clause-only : goal.returns-clause-only
returns-clause-only c = one-list c.places_in_order.ensures
