use Rattle.std.proofs.Common.{◌≡◌, ◌+◌, ◌-◌, ◌<◌, length, take, sym, ap, ◌∙◌, arith, rules, slice_index_or}
use Rattle.std.specs.Prelude.{nat_le, nat_lt}
use Rattle.std.specs.List.{list_any}
use Rattle.std.proofs.lemmas.List.Sorted.{IsPartitionPoint-from_clause, IsPartitionedBy-leb}
use Rattle.proto_facts.specs.declared.reach.Reach.{Reach}
use Rattle.proto_facts.proofs.ReachLemmas.{any-split}
use Rattle.proto_facts.proofs.reach.is_between.Goals as goal

pub returns-then-past-gt0 : goal.returns-then-past-gt0
returns-then-past-gt0 c =
    let xs = c.args.sorted.now in
    let high = c.args.high in
    let low = c.args.low in
    let past = c.partition_point-past.result in
    let point = IsPartitionPoint-from_clause (λ (y : Reach). nat_le y.low high) xs past c.partition_point-past.ensures.partitioned (IsPartitionedBy-leb (λ (y : Reach). y.low) xs high c.requires.order) (λ a r q k. search rules) in
    let back : past - 1 + 1 ≡ past = omega arith in
    let lt : past - 1 < length xs = omega (arith, c.partition_point-past.ensures.bound) in
    ap (λ n. nat_lt n (slice_index_or c.args.ends.now (past - 1) 0)) c.from.ensures
    ∙ c.requires.ends.reach (past - 1) low lt
    ∙ ap (λ k. list_any (λ (r : Reach). nat_le low r.high) (take k xs)) back
    ∙ sym (any-split xs past high low point.0 point.1 c.partition_point-past.ensures.bound)

pub returns-else-past-gt0 : goal.returns-else-past-gt0
returns-else-past-gt0 c =
    let xs = c.args.sorted.now in
    let high = c.args.high in
    let low = c.args.low in
    let past = c.partition_point-past.result in
    let point = IsPartitionPoint-from_clause (λ (y : Reach). nat_le y.low high) xs past c.partition_point-past.ensures.partitioned (IsPartitionedBy-leb (λ (y : Reach). y.low) xs high c.requires.order) (λ a r q k. search rules) in
    let none : past ≡ 0 = omega arith in
    ap (nat_lt 0) none ∙ sym (any-split xs past high low point.0 point.1 c.partition_point-past.ensures.bound ∙ ap (λ k. list_any (λ (r : Reach). nat_le low r.high) (take k xs)) none)
