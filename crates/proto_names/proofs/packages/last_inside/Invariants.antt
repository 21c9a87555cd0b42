use Rattle.std.proofs.Common.{◌≡◌, ◌≤◌, ◌<◌, ℕ, false, take, length, get_or}
use Rattle.proto_decls.specs.Text.{joined}
use Rattle.proto_names.specs.Files.{begins}
use Rattle.proto_names.proofs.packages.last_inside.Given as goal

-- none of the later lengths passes
abbrev pub invariant-loop-left : goal.invariant-loop-left
invariant-loop-left l = (l.left ≤ length l.lengths) × ((k : ℕ) → l.left ≤ k → k < length l.lengths → begins l.«package» (joined (take (get_or l.lengths k 0) l.scope) l.component) ≡ false)

abbrev pub decreases-loop-left : goal.decreases-loop-left
decreases-loop-left l = l.left
