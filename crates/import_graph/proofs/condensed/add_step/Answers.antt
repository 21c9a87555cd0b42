use Rattle.std.proofs.Common.{arith}
use Rattle.import_graph.proofs.Representatives.{Adds-one, Adds-stay}
use Rattle.import_graph.proofs.condensed.add_step.Goals as goal

pub returns-in_ok-add_to-clause-adds : goal.returns-in_ok-add_to-clause-adds
returns-in_ok-add_to-clause-adds c = rw c.in_ok-add_to.ensures.adds (Adds-one _ _ _ (omega (arith, c.requires.from, c.args.rows.now.ok)))

pub returns-else-from-to-clause-adds : goal.returns-else-from-to-clause-adds
returns-else-from-to-clause-adds c = Adds-stay _ _ _ c.if-from-to.false
