use Rattle.std.proofs.Common.{◌≡◌, ◌++◌, drop}
use Rattle.work_index.specs.Pieces.{workspace_of}
use Rattle.work_index.proofs.analyse.files_of.Given as goal

-- what is there and what is left are all
abbrev pub invariant-loop-piece : goal.invariant-loop-piece
invariant-loop-piece l = l.files.items ++ workspace_of l.reads_others (drop l.piece-index l.pieces) ≡ workspace_of l.reads_others l.pieces
