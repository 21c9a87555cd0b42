use Rattle.work_check.specs.Steps.{AreLinesBetween}
use Rattle.work_check.proofs.shares.share_lines.Given as goal

abbrev pub invariant-loop-number : goal.invariant-loop-number
invariant-loop-number l = AreLinesBetween l.first l.number l.listed l.lines.items
