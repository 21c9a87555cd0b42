use Rattle.import_graph.proofs.PathOrder.{RisesBelow}
use Rattle.import_graph.proofs.paths.are_in_path_order.Given as goal

abbrev pub invariant-loop-next : goal.invariant-loop-next
invariant-loop-next l = RisesBelow l.files l.next
