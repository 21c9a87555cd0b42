use Rattle.std.proofs.Common.{◌≡◌, true, length, get_or, take}
use Rattle.std.specs.Prelude.{All}
use Rattle.work_changes.proofs.relinking.waiting_of.Given as goal

abbrev pub invariant-loop-file : goal.invariant-loop-file
invariant-loop-file l = record {
  count : length l.waiting.items ≡ l.count;
  changed : All (λ f. get_or l.waiting.items f true ≡ true) (take l.file-index l.changed);
}
