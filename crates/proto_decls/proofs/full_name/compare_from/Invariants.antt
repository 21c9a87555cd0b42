use Rattle.std.proofs.Common.{◌≡◌, ◌-◌, drop}
use Rattle.std.specs.Cmp.Lexicographic.{slice_cmp}
use Rattle.std.specs.Ordering.{nat_cmp}
use Rattle.proto_decls.specs.Text.{joined}
use Rattle.proto_decls.proofs.full_name.compare_from.Given as goal

-- the bytes so far are the same
abbrev pub invariant-loop-at : goal.invariant-loop-at
invariant-loop-at l =
    slice_cmp nat_cmp (drop l.from (joined l.scope l.last)) (drop l.from (joined l.other.scope.now l.other.last.now))
    ≡ slice_cmp nat_cmp (drop l.at (joined l.scope l.last)) (drop l.at (joined l.other.scope.now l.other.last.now))

abbrev pub decreases-loop-at : goal.decreases-loop-at
decreases-loop-at l = l.end - l.at
