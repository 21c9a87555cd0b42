use Rattle.std.proofs.Common.{Bool}
use Rattle.work_index.specs.Pieces.{workspace_of}
use Rattle.work_update.specs.Stayed.{IsEarlierThan}
use Rattle.work_update.proofs.Stayed.{AreLinkedSoFar}
use Rattle.work_update.proofs.update_files.link_after.Given as goal

-- what is there and what is left are all
abbrev pub invariant-loop-file : goal.invariant-loop-file
invariant-loop-file l = (r : Bool) → IsEarlierThan 0 l.to (workspace_of r l.pieces) l.table l.fn.earlier → AreLinkedSoFar r l.to l.pieces l.table l.earlier l.resolutions l.file
