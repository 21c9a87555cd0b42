use Rattle.std.proofs.Common.{refl}
use Rattle.work_changes.specs.declared.relinking.Relinking.{Relinking}
use Rattle.work_changes.proofs.LinkedAgain.{none_taken}
use Rattle.work_changes.proofs.relinking.bring_up.Goals as goal

pub take_changes-requires-clause-before : goal.take_changes-requires-clause-before
take_changes-requires-clause-before c =
    let now : Relinking = record { resolutions = c.args.outdated.resolutions; waiting = c.in_ok-waiting.waiting } in
    none_taken c.args.outdated c.args.files.now c.args.changed.now now c.requires refl c.in_ok-waiting.ensures.count c.in_ok-waiting.ensures.changed
