use Rattle.std.proofs.Common.{drop}
use Rattle.work_changes.specs.Changes.{AreTakenBut}
use Rattle.work_changes.proofs.relinking.take_changes.Given as goal

abbrev pub invariant-loop-file : goal.invariant-loop-file
invariant-loop-file l = AreTakenBut (drop l.file-index l.changed) l.table l.files l.relinking
