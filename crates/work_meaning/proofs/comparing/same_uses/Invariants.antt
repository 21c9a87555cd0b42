use Rattle.std.proofs.Common.{◌≡◌, length, map, take}
use Rattle.work_meaning.specs.Bindings.{bound}
use Rattle.work_meaning.proofs.comparing.same_uses.Given as goal

-- those so far are the same
abbrev pub invariant-loop-i : goal.invariant-loop-i
invariant-loop-i l = record { as_many : length l.a ≡ length l.b; so_far : map bound (take l.i l.a) ≡ map bound (take l.i l.b) }
