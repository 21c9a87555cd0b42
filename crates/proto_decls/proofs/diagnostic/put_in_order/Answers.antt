use Rattle.std.proofs.Common.{subst}
use Rattle.std.specs.List.Sorted.{IsStrictlySortedBy}
use Rattle.proto_decls.specs.Order.{order}
use Rattle.proto_decls.proofs.DiagOrder.{risen}
use Rattle.proto_decls.proofs.diagnostic.put_in_order.Goals as goal

pub returns-then-rises : goal.returns-then-rises
returns-then-rises c = risen c.args.found (subst (IsStrictlySortedBy order) c.as_slice.ensures (c.rises.ensures c.if-rises.true))
