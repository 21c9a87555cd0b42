use Rattle.std.proofs.Common.{◌≡◌}
use Rattle.work_update.specs.Arrivals.{numbers_with}
use Rattle.work_update.proofs.add_file.numbers_with.Given as goal

-- the numbers so far
abbrev pub invariant-loop-file : goal.invariant-loop-file
invariant-loop-file l = l.to.items ≡ numbers_with l.at l.file
