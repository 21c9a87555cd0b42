use Rattle.std.proofs.Common.{◌≡◌, ◌*◌, ◌++◌, drop}
use Rattle.lsp_answers.specs.Ranges as spec
use Rattle.lsp_answers.proofs.ranges.paired.Given as goal

-- the ranges so far and those that are left are all
abbrev pub invariant-loop-i : goal.invariant-loop-i
invariant-loop-i l = l.ranges.items ++ spec.paired (drop (2 * l.i) l.positions) ≡ spec.paired l.positions
