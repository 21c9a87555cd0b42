use Rattle.std.proofs.Common.{◌≤◌, ◌<◌, ◌≢◌, ℕ, length, get_or}
use Rattle.proto_decls.proofs.full_name.last_dot.Given as goal

-- no dot from here on
abbrev pub invariant-loop-at : goal.invariant-loop-at
invariant-loop-at l = (l.at ≤ length l.name) × ((k : ℕ) → l.at ≤ k → k < length l.name → get_or l.name k 0 ≢ 46)

abbrev pub decreases-loop-at : goal.decreases-loop-at
decreases-loop-at l = l.at
