use Rattle.std.proofs.Common.{◌≡◌, length}
use Rattle.work_update.specs.Updates.{AreNumbersNow}
use Rattle.work_update.proofs.Updates.{piece_paths}
use Rattle.work_update.proofs.update.numbers_now.Given as goal

abbrev pub invariant-loop-file : goal.invariant-loop-file
invariant-loop-file l = record {
  count : length l.to.items ≡ l.file;
  each : AreNumbersNow l.earlier.paths l.changed (piece_paths l.pieces) l.to.items;
}
