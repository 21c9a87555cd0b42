use Rattle.std.proofs.Common.{◌≡◌}
use Rattle.work_check.proofs.diagnosing.await_work.Given as goal

-- neither a file nor how texts are read has changed
abbrev pub invariant-loop-result : goal.invariant-loop-result
invariant-loop-result g l = record {
  files : (let now = l.workspace in now.files) ≡ (let old = l.initial.workspace in old.files);
  others : (let now = l.workspace in now.reads_others) ≡ (let old = l.initial.workspace in old.reads_others);
}
