use Rattle.std.proofs.Common.{Err, sym, ap, subst, length, map}
use Rattle.piece_collector.specs.declared.fault.BoardFault.TheVariants.{Exhausted}
use Rattle.work_files.specs.Disk.{disk_view}
use Rattle.work_files.specs.Files.{AreInPathOrder, workspace}
use Rattle.work_space.specs.BoardTexts.{StampsRunOut}
use Rattle.work_space.proofs.FirstEvents.{refused_with}
use Rattle.work_files.proofs.PathOrder.{from_disk-order}
use Rattle.work_space.proofs.workspace.Workspace.from_disk.Goals as goal

pub invariant_of-result : goal.invariant_of-result
invariant_of-result c = record {
  ordered = subst AreInPathOrder (sym c.in_ok-files.ensures) (from_disk-order (map disk_view c.args.disk_files.items));
  here = c.in_ok-board.ensures.here;
  texts = c.in_ok-board.ensures.texts;
  is_of = tt;
}

pub returns-in_err-board-clause-exhausted : goal.returns-in_err-board-clause-exhausted
returns-in_err-board-clause-exhausted c = λ none.
    let is = refused_with c.in_err-board.field-0.0 Exhausted c.from_residual-in_err-board.result c.from_residual-in_err-board.ensures.1 none in
    subst (λ files. StampsRunOut c.args.stamp (length (workspace files))) c.in_ok-files.ensures (c.in_err-board.ensures.exhausted (ap Err is))
