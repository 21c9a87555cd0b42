use Rattle.std.proofs.Common.{ℕ, ◌<◌}
use Rattle.work_meaning.specs.Bindings.{SameInFile}
use Rattle.work_meaning.proofs.comparing.same_meaning.Given as goal

-- the meaning is the same in each file so far
abbrev pub invariant-loop-file : goal.invariant-loop-file
invariant-loop-file l = (k : ℕ) → k < l.file → SameInFile l.a l.b k
