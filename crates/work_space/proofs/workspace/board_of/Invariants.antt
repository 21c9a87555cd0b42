use Rattle.std.proofs.Common.{◌≡◌, false}
use Rattle.work_files.specs.View.{files_view}
use Rattle.work_space.proofs.FirstEvents.{HasSet}
use Rattle.work_space.proofs.workspace.board_of.Given as goal

-- the texts of some files were set, and the others are left
abbrev pub invariant-loop-path : goal.invariant-loop-path
invariant-loop-path l = record {
  here : l.board.is_lent ≡ false;
  set : HasSet l.stamp l.board (files_view l.path-iterator) l.files;
}
