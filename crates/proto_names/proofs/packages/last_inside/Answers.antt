use Rattle.std.proofs.Common.{◌+◌, ◌-◌, ◌<◌, ◌≤◌, ℕ, inl, inr, get_or, length, nat_lt, refl, take, arith, rules}
use Rattle.std.proofs.lemmas.Bool.{cases_eq}
use Rattle.std.proofs.lemmas.List.{length-take-le}
use Rattle.std.proofs.lemmas.List.Sorted.{IsPartitionPoint-from_clause, IsPartitionedBy-ltb}
use Rattle.proto_names.proofs.PackageFronts.{none_behind}
use Rattle.proto_names.proofs.packages.last_inside.Goals as goal

pub loop-left-init : goal.loop-left-init
loop-left-init c =
    let past : ℕ = c.common_len.result + 1 in
    let parted = IsPartitionedBy-ltb (λ n. n) c.args.lengths.now past c.requires.ascending in
    let point = IsPartitionPoint-from_clause (λ n. nat_lt n past) c.args.lengths.now c.partition_point-left.result c.partition_point-left.ensures.partitioned parted (λ a r q k. search rules) in (
      c.partition_point-left.ensures.bound,
      none_behind c.args.«package».now c.args.scope.now c.args.component.now c.args.lengths.now past c.partition_point-left.result
          (λ l from le. c.common_len.ensures.common l (omega (arith, from)) le) c.requires.within point,
    )

pub loop-left-preserved : goal.loop-left-preserved
loop-left-preserved c =
    let i : ℕ = c.loop-left.left - 1 in
    let within : i < length c.args.lengths.now = omega (arith, c.loop-left-test.true, c.loop-left.invariant.0) in
    let fits : get_or c.args.lengths.now i 0 ≤ length c.args.scope.now = c.requires.within i 0 within in
    let here = c.if-goes_on.ensures refl (take (get_or c.args.lengths.now i 0) c.args.scope.now) (length-take-le (get_or c.args.lengths.now i 0) c.args.scope.now fits) in (
      omega (arith, within),
      λ k from lt. elim (cases_eq k i) [
        | inl equal ↦ rw equal here
        | inr other ↦ c.loop-left.invariant.1 k (omega (arith, from, other)) lt
      ],
    )
