use Rattle.proto_laws.proofs.NamesOrder.{components-ascend, names-ascend}
use Rattle.proto_laws.proofs.order_laws.names_in_order.Goals as goal

pub returns-clause-names : goal.returns-clause-names
returns-clause-names c = names-ascend c.type_names_law.ensures.names

pub returns-clause-components : goal.returns-clause-components
returns-clause-components c = components-ascend c.type_names_law.ensures.components
