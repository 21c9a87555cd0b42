use Rattle.std.proofs.Common.{◌≡◌, ◌<◌, ◌≤◌, ◌-◌, ℕ, length, slice_index}
use Rattle.proto_decls.proofs.byte_pairs.common_len.Given as goal

abbrev pub invariant-loop-at : goal.invariant-loop-at
invariant-loop-at l = record { within_a : l.at ≤ length l.a; within_b : l.at ≤ length l.b; same : (i : ℕ) → i < l.at → slice_index l.a i ≡ slice_index l.b i }

abbrev pub decreases-loop-at : goal.decreases-loop-at
decreases-loop-at l = length l.a - l.at
