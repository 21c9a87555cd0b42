use Rattle.work_check.proofs.checking.check_as.Goals as goal

pub returns-in-Ok-clause-prefix : goal.returns-in-Ok-clause-prefix
returns-in-Ok-clause-prefix g c =
    rw (c.in-Ok.ensures.files, c.in-Ok.ensures.roots) at c.send_and_judge-checked.ensures.prefix

pub returns-in-Ok-clause-whole : goal.returns-in-Ok-clause-whole
returns-in-Ok-clause-whole g c =
    rw (c.in-Ok.ensures.files, c.in-Ok.ensures.roots) at c.send_and_judge-checked.ensures.whole

pub returns-in-Ok-clause-checked : goal.returns-in-Ok-clause-checked
returns-in-Ok-clause-checked g c =
    rw c.in-Ok.ensures.files at c.send_and_judge-checked.ensures.checked
