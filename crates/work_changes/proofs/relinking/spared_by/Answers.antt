use Rattle.std.proofs.Common.{refl}
use Rattle.work_changes.proofs.relinking.spared_by.Goals as goal

pub returns-in-Some : goal.returns-in-Some
returns-in-Some c = record {
  touched = c.in-Some.touched;
  kept = c.in-Some.is;
  by_is = refl;
  untouched = c.asks_for.ensures.untouched c.if-not-asks_for.true;
}
