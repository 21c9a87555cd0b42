use Rattle.std.proofs.Common.{◌≡◌, take}
use Rattle.work_index.proofs.analysis.copy_diagnostics.Given as goal

-- those so far are equal
abbrev pub invariant-loop-diagnostics : goal.invariant-loop-diagnostics
invariant-loop-diagnostics l = l.copies.items ≡ take l.diagnostics-index l.all
