use Rattle.proto_laws.proofs.NamesOrder.{uses-ascend}
use Rattle.proto_laws.proofs.order_laws.uses_in_order.Goals as goal

pub returns : goal.returns
returns c = uses-ascend c.type_names_law.ensures.components
