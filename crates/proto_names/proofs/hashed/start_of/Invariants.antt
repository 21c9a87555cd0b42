use Rattle.std.proofs.Common.{◌≤◌, ◌<◌, ◌-◌, length, get_or}
use Rattle.proto_names.proofs.hashed.start_of.Given as goal

-- none up to here is too high
abbrev pub invariant-loop-place : goal.invariant-loop-place
invariant-loop-place l = (l.place ≤ length l.hashes) × (0 < l.place → get_or l.hashes (l.place - 1) 0 < l.hash)

abbrev pub decreases-loop-place : goal.decreases-loop-place
decreases-loop-place l = l.end - l.place
