use Rattle.std.proofs.Common.{rules}
use Rattle.std.proofs.lemmas.Fn.{always_returns_same}
use Rattle.std.proofs.lemmas.List.Sorted.{IsNonDecreasingBy-from_sort_by_key}
use Rattle.std.proofs.lemmas.Result.{on_ok_weaker}
use Rattle.work_files.specs.declared.disk.DiskFile.{DiskFile}
use Rattle.work_config.proofs.config.sort_by_root.Goals as goal

pub returns-clause-sorted : goal.returns-clause-sorted
returns-clause-sorted c =
    on_ok_weaker c.sort_by_key.result (λ sorts. IsNonDecreasingBy-from_sort_by_key (λ (f : DiskFile). f.root) _ sorts (λ a r q k. search rules)) c.sort_by_key.ensures.sorted

pub returns-clause-stable : goal.returns-clause-stable
returns-clause-stable c = c.sort_by_key.ensures.stable (λ (f : DiskFile). f.root) (always_returns_same _ _ _ (λ a r q k. search rules))
