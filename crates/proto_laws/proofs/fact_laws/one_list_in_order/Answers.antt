use Rattle.proto_decls.proofs.DiagOrder.{in_order-is_list, only_list}
use Rattle.proto_laws.proofs.fact_laws.one_list_in_order.Goals as goal

pub returns-clause-list : goal.returns-clause-list
returns-clause-list c = in_order-is_list

pub returns-clause-only : goal.returns-clause-only
returns-clause-only c = only_list
