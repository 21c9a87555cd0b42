use Rattle.work_changes.proofs.LinkedAgain.{AreFollowed}
use Rattle.work_changes.proofs.relinking.follow.Given as goal

abbrev pub invariant-loop-file : goal.invariant-loop-file
invariant-loop-file l = AreFollowed l.table l.files l.fn.relinking l.relinking l.file
