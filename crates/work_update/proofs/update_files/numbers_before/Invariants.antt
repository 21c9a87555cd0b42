use Rattle.std.proofs.Common.{◌≡◌, ℕ, None, Some, length, get_or}
use Rattle.import_graph.specs.Moves.{place}
use Rattle.work_update.proofs.update_files.numbers_before.Given as goal

abbrev pub invariant-loop-old : goal.invariant-loop-old
invariant-loop-old l = record {
  count : length l.before.items ≡ l.count;
  each : (n g : ℕ) → get_or l.before.items n None ≡ Some g → place l.to g ≡ Some n;
}
