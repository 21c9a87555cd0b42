use Rattle.std.proofs.Common.{◌≡◌, ◌<◌, ◌+◌, ℕ, Some}
use Rattle.import_graph.specs.Moves.{place}
use Rattle.work_update.proofs.update_table.are_moved.Given as goal

-- those so far are moved
abbrev pub invariant-loop-file : goal.invariant-loop-file
invariant-loop-file l = (g : ℕ) → l.from + g < l.file → place l.to (l.from + g) ≡ Some (l.first + g)
