use Rattle.std.proofs.Common.{◌≡◌, ◌<◌, ◌≤◌, ◌+◌, ◌-◌, ℕ, false, get_or, length, take, nat_lt, arith, rules}
use Rattle.std.proofs.lemmas.List.{length-take-le, take-take}
use Rattle.std.proofs.lemmas.List.Sorted.{IsPartitionPoint-from_clause, IsPartitionedBy-ltb}
use Rattle.proto_names.specs.Files.{name_at}
use Rattle.proto_names.specs.Tables.{stands_in}
use Rattle.proto_names.proofs.Fronts.{front_rises, further, NoneFrom}
use Rattle.proto_names.proofs.holders.last_place.Goals as goal

pub loop-left-preserved : goal.loop-left-preserved
loop-left-preserved c =
    let i : ℕ = c.loop-left.left - 1 in
    let size : ℕ = get_or c.args.lengths.now i 0 in
    let within : i < length c.args.lengths.now = omega (arith, c.loop-left-test.true, c.loop-left.invariant.0) in
    let fits : size ≤ length c.args.scope.now = c.requires.within i 0 within in
    let none = c.in-Some.ensures.bound in
    let shorter : (l : ℕ) → c.in-Some.bound ≤ l → l ≤ size → stands_in (name_at c.args.files.now) c.args.decls.now (take l c.args.scope.now) ≡ false =
    λ l from le. rw (take-take l size c.args.scope.now le) at (none.1 l from (omega (arith, le, length-take-le size c.args.scope.now fits))) in
    let parted = IsPartitionedBy-ltb (λ n. n) (take i c.args.lengths.now) c.in-Some.bound (front_rises c.args.lengths.now i c.requires.ascending (omega (arith, within))) in
    let point = IsPartitionPoint-from_clause (λ n. nat_lt n c.in-Some.bound) (take i c.args.lengths.now) c.partition_point-left.result c.partition_point-left.ensures.partitioned parted (λ a r q k. search rules) in
    let same : i + 1 ≡ c.loop-left.left = omega (arith, c.loop-left-test.true) in
    let later : NoneFrom (λ l. stands_in (name_at c.args.files.now) c.args.decls.now (take l c.args.scope.now)) c.args.lengths.now (i + 1) = rw same c.loop-left.invariant.1 in (
      omega (arith, c.partition_point-left.ensures.bound, length-take-le i c.args.lengths.now (omega (arith, within)), within),
      further (λ l. stands_in (name_at c.args.files.now) c.args.decls.now (take l c.args.scope.now)) c.args.lengths.now i c.partition_point-left.result c.in-Some.bound
          c.requires.ascending within later none.0 shorter point,
    )
