use Rattle.std.proofs.Common.{◌≡◌, ◌⊎◌, ◌≤◌, ℕ, All, take, slice_index_or}
use Rattle.import_graph.proofs.coming.number_above.Given as goal

-- the number is as high as those of the files so far
abbrev pub invariant-loop-target : goal.invariant-loop-target
invariant-loop-target l = All (λ (t : ℕ). (t ≡ l.file) ⊎ (slice_index_or l.numbers t 0 ≤ l.number)) (take l.target-index l.own)
