use Rattle.std.proofs.Common.{ℕ, List, subst}
use Rattle.std.proofs.lemmas.List.{drop_all}
use Rattle.work_changes.specs.Changes.{AreTakenBut}
use Rattle.work_changes.proofs.LinkedAgain.{all_taken, next_taken, next_waits}
use Rattle.work_changes.proofs.relinking.take_changes.Goals as goal

pub take_change-requires-clause-waits : goal.take_change-requires-clause-waits
take_change-requires-clause-waits c =
    next_waits c.args.changed.now c.loop-file.file-index c.loop-file.table c.args.files.now c.loop-file.relinking c.loop-file-test.true c.loop-file.invariant

pub loop-file-preserved : goal.loop-file-preserved
loop-file-preserved c =
    next_taken c.args.changed.now c.loop-file.file-index c.loop-file.table c.args.files.now c.loop-file.relinking c.loop-file-test.true c.loop-file.invariant
    c.in_ok-table.table c.take_change.new.relinking c.in_ok-table.ensures.table c.in_ok-table.ensures.linked c.in_ok-table.ensures.wait

pub returns-clause-table : goal.returns-clause-table
returns-clause-table c =
    all_taken c.loop-file.table c.args.files.now c.loop-file.relinking
    (subst (λ (rest : List ℕ). AreTakenBut rest c.loop-file.table c.args.files.now c.loop-file.relinking) (drop_all c.loop-file.file-index c.args.changed.now c.loop-file-test.false) c.loop-file.invariant)
