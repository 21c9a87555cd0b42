use Rattle.std.proofs.Common.{sym, ◌∙◌}
use Rattle.proto_decls.proofs.ApartNames.{same_option}
use Rattle.work_update.proofs.FilesMoves.{one_more_moved}
use Rattle.work_update.proofs.update_table.are_moved.Goals as goal

pub loop-file-preserved : goal.loop-file-preserved
loop-file-preserved c = one_more_moved c.args.to.now c.args.from c.args.first c.loop-file.file c.loop-file.invariant (sym (same_option _ _ (sym c.ne.ensures ∙ c.if-ne.false)))
