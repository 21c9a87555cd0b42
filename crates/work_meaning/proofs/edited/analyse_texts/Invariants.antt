use Rattle.std.proofs.Common.{◌≡◌, ◌++◌, drop, map}
use Rattle.work_index.specs.Pieces.{workspace_of}
use Rattle.work_meaning.specs.Edited.{named_text}
use Rattle.work_meaning.proofs.edited.analyse_texts.Given as goal

-- those so far and those that are left are all
abbrev pub invariant-loop-file : goal.invariant-loop-file
invariant-loop-file l = workspace_of l.reads_others l.pieces.items ++ map (named_text l.reads_others) (drop l.file-index l.files) ≡ map (named_text l.reads_others) l.files
