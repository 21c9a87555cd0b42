use Rattle.std.proofs.Common.{◌≡◌, ◌++◌, drop}
use Rattle.work_index.specs.Pieces.{workspace_of}
use Rattle.work_index.specs.Workspace.{all_facts}
use Rattle.work_index.proofs.file_tables.all_facts.Given as goal

-- what is there and what is left are all
abbrev pub invariant-loop-piece : goal.invariant-loop-piece
invariant-loop-piece l = l.files.items ++ all_facts (workspace_of l.reads_others (drop l.piece-index l.pieces)) ≡ all_facts (workspace_of l.reads_others l.pieces)
