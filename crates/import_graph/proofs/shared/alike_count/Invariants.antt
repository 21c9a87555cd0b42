use Rattle.std.proofs.Common.{◌≡◌, ◌≤◌, ◌-◌, length, take}
use Rattle.std.specs.Prelude.{All}
use Rattle.import_graph.proofs.shared.alike_count.Given as goal

abbrev pub invariant-loop-count : goal.invariant-loop-count
invariant-loop-count l = (l.count ≤ length l.starts) × All (λ s. s.first ≡ l.first) (take l.count l.starts)

abbrev pub decreases-loop-count : goal.decreases-loop-count
decreases-loop-count l = length l.starts - l.count
