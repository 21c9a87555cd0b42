use Rattle.std.proofs.Common.{◌≡◌, ◌++◌, drop, map}
use Rattle.work_meaning.proofs.edited.numbers_of.Given as goal

-- those so far and those that are left are all
abbrev pub invariant-loop-edited : goal.invariant-loop-edited
invariant-loop-edited l = l.files.items ++ map (λ e. e.file) (drop l.edited-index l.edits) ≡ map (λ e. e.file) l.edits
