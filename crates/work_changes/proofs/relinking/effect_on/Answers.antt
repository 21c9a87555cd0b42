use Rattle.work_changes.specs.Changes.{IsSpared}
use Rattle.work_changes.proofs.relinking.effect_on.Goals as goal

pub returns-in-Some-spared_by : goal.returns-in-Some-spared_by
returns-in-Some-spared_by c old differ =
    let spared : IsSpared c.in-Some.told c.args.asked.now c.in-Some-spared_by.by = rw c.in-Some-spared_by.is at c.spared_by.ensures in record {
      other = c.if-file-change.false;
      imports = c.in_ok-looks_as_before.ensures old differ c.if-not-branch.false;
      touched = spared.touched;
      by_is = spared.by_is;
      tells = (let both = rw c.in-Some.is at differ.told in rw spared.kept at both.1);
      untouched = spared.untouched;
    }
