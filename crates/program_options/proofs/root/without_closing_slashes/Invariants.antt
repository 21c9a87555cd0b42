use Rattle.std.proofs.Common.{◌≡◌, length}
use Rattle.program_options.specs.Path.{without_closing_slashes}
use Rattle.program_options.proofs.root.without_closing_slashes.Given as goal

abbrev pub invariant-loop-rest : goal.invariant-loop-rest
invariant-loop-rest l = without_closing_slashes l.rest ≡ without_closing_slashes l.path

abbrev pub decreases-loop-rest : goal.decreases-loop-rest
decreases-loop-rest l = length l.rest
