use Rattle.std.proofs.Common.{sym, ◌∙◌}
use Rattle.proto_decls.proofs.ApartNames.{same_option}
use Rattle.work_update.proofs.FilesMoves.{one_more_kept}
use Rattle.work_update.proofs.update_table.kept_at_front.Goals as goal

pub loop-file-preserved : goal.loop-file-preserved
loop-file-preserved c = one_more_kept c.args.to.now c.loop-file.file c.loop-file.invariant (sym (same_option _ _ (sym c.ne.ensures ∙ c.if-ne.false)))
