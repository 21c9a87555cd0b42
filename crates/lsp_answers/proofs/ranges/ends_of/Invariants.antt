use Rattle.std.proofs.Common.{◌≡◌, ◌++◌, drop}
use Rattle.lsp_answers.specs.Ranges as spec
use Rattle.lsp_answers.proofs.ranges.ends_of.Given as goal

-- the ends so far and those that are left are all
abbrev pub invariant-loop-part : goal.invariant-loop-part
invariant-loop-part l = l.ends.items ++ spec.ends_of (drop l.part-index l.parts) ≡ spec.ends_of l.parts
