use Rattle.proto_laws.proofs.ItemsLaw.{only, are_items}
use Rattle.proto_laws.proofs.tree_laws.items_law.Goals as goal

pub returns-clause-least : goal.returns-clause-least
returns-clause-least c = are_items

pub returns-clause-only : goal.returns-clause-only
returns-clause-only c = only
