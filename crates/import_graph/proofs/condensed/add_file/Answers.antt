use Rattle.std.proofs.Common.{arith}
use Rattle.std.proofs.lemmas.List.{get_or_default}
use Rattle.std.proofs.lemmas.Result.{on_ok_weaker}
use Rattle.import_graph.proofs.Representatives.{Adds-file}
use Rattle.import_graph.proofs.condensed.add_file.Goals as goal

pub returns-clause-adds : goal.returns-clause-adds
returns-clause-adds c =
    on_ok_weaker c.add_steps.result
    (Adds-file _ _ _ _ (get_or_default c.args.representatives.now c.args.file 0 _ (omega (arith, c.requires.file, c.requires.count))) _ _ _ _ c.in_ok-add_step.ensures.adds c.in_ok-add_step-2.ensures.adds)
    c.add_steps.ensures.adds
