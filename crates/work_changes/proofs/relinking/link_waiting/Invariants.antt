use Rattle.work_changes.proofs.LinkedAgain.{AreLinkedUpTo}
use Rattle.work_changes.proofs.relinking.link_waiting.Given as goal

abbrev pub invariant-loop-file : goal.invariant-loop-file
invariant-loop-file l = AreLinkedUpTo l.table l.files l.waiting.items l.resolutions l.file
