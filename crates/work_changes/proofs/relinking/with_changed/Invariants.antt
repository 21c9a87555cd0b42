use Rattle.std.proofs.Common.{drop}
use Rattle.work_index.specs.Pieces.{workspace_of}
use Rattle.work_changes.specs.Changes.{AreKeptBut}
use Rattle.work_changes.proofs.relinking.with_changed.Given as goal

abbrev pub invariant-loop-file : goal.invariant-loop-file
invariant-loop-file l = AreKeptBut (drop l.file-index l.changed) l.files.items (workspace_of l.reads_others l.pieces)
