use Rattle.std.proofs.Common.{◌≡◌, length, take}
use Rattle.work_meaning.specs.Bindings.{codes_in}
use Rattle.work_meaning.proofs.comparing.same_numbers.Given as goal

-- those so far are the same
abbrev pub invariant-loop-i : goal.invariant-loop-i
invariant-loop-i l = record { as_many : length l.a ≡ length l.b; so_far : codes_in (take l.i l.a) ≡ codes_in (take l.i l.b) }
