use Rattle.std.proofs.Common.{◌≡◌, map, Ok}
use Rattle.work_check.proofs.shares.none_refused.Given as goal

abbrev pub invariant-loop-answer : goal.invariant-loop-answer
invariant-loop-answer l = l.yielded ≡ map Ok l.shares.items
