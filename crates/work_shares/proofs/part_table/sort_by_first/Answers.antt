use Rattle.std.proofs.Common.{rules}
use Rattle.std.proofs.lemmas.List.Sorted.{IsNonDecreasingBy-from_sort_by_key}
use Rattle.std.proofs.lemmas.Result.{on_ok_weaker}
use Rattle.work_shares.specs.Stretches.{PartData}
use Rattle.work_shares.proofs.part_table.sort_by_first.Goals as goal

pub returns-clause-sorted : goal.returns-clause-sorted
returns-clause-sorted c =
    on_ok_weaker c.sort_by_key.result (λ sorts. IsNonDecreasingBy-from_sort_by_key (λ (p : PartData). p.first) _ sorts (λ a r q k. search rules)) c.sort_by_key.ensures.sorted
