use Rattle.std.proofs.Common.{◌≡◌, take}
use Rattle.work_index.proofs.analysis.copy_files.Given as goal

-- those so far are equal
abbrev pub invariant-loop-file : goal.invariant-loop-file
invariant-loop-file l = l.copies.items ≡ take l.file-index l.all
