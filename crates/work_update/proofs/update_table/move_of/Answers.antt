use Rattle.std.proofs.Common.{arith, refl}
use Rattle.work_update.proofs.FilesMoves.{one_came, one_left}
use Rattle.work_update.proofs.update_table.move_of.Goals as goal

pub returns-then-are_moved : goal.returns-then-are_moved
returns-then-are_moved c =
    let front = c.kept_at_front-at.ensures in
    one_came c.args.to.now c.args.before c.args.now c.kept_at_front-at.result c.if-before-to.false front.kept c.if-now-before.true (omega (arith, front.within, c.if-before-to.false)) (c.if-are_moved.ensures refl)

pub returns-then-are_moved-2 : goal.returns-then-are_moved-2
returns-then-are_moved-2 c =
    let front = c.kept_at_front-at.ensures in
    one_left c.args.to.now c.args.before c.args.now c.kept_at_front-at.result c.if-before-to.false front.kept (omega (arith, c.if-now-before-2.true, c.if-at-before.true)) c.if-at-before.true (c.if-are_moved-2.ensures refl)
