use Rattle.std.proofs.Common.{◌≡◌, ◌<◌, ℕ, Some}
use Rattle.import_graph.specs.Moves.{place}
use Rattle.work_update.proofs.update_table.kept_at_front.Given as goal

-- those so far are kept
abbrev pub invariant-loop-file : goal.invariant-loop-file
invariant-loop-file l = (g : ℕ) → g < l.file → place l.to g ≡ Some g
