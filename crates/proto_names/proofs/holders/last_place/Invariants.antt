use Rattle.std.proofs.Common.{◌≡◌, ◌≤◌, ◌<◌, ℕ, false, take, length, get_or}
use Rattle.proto_names.specs.Files.{name_at}
use Rattle.proto_names.specs.Tables.{stands_in}
use Rattle.proto_names.proofs.holders.last_place.Given as goal

-- none of the later lengths passes
abbrev pub invariant-loop-left : goal.invariant-loop-left
invariant-loop-left l = (l.left ≤ length l.lengths) × ((k : ℕ) → l.left ≤ k → k < length l.lengths → stands_in (name_at l.files) l.decls (take (get_or l.lengths k 0) l.scope) ≡ false)

abbrev pub decreases-loop-left : goal.decreases-loop-left
decreases-loop-left l = l.left
