use Rattle.std.proofs.Common.{◌≡◌, ◌<◌, ◌≤◌, ◌+◌, ◌-◌, ℕ, List, true, false, get_or, length, subst, rules, arith}
use Rattle.std.specs.Prelude.{nat_lt}
use Rattle.std.specs.List.Sorted.{IsNonDecreasing, IsPartitionPoint}
use Rattle.std.proofs.lemmas.Bool.Decides.{nat_tests}
use Rattle.std.proofs.lemmas.List.{get_or_default}
use Rattle.std.proofs.lemmas.List.Sorted.{IsPartitionPoint-from_clause}
use Rattle.proto_names.proofs.Hashes.{lower_first, point_at}
use Rattle.proto_names.proofs.hashed.start_of.Goals as goal
use Rattle.proto_names.proofs.hashed.start_of.Goals.{else-place-gt0-via-then-place-gt0+else-hashes-place, else-place-gt0-via-else-place-gt0}

is_lower : (a b : ℕ) → a < b → nat_lt a b ≡ true
is_lower a b lt = grind (arith, nat_tests)

is_not_lower : (a b : ℕ) → b ≤ a → nat_lt a b ≡ false
is_not_lower a b le = grind (arith, nat_tests)

-- a place with a lower one right before it and none at it
place_is : (hashes : List ℕ) (hash : ℕ) (up : IsNonDecreasing hashes) (place : ℕ) → place ≤ length hashes → (0 < place → get_or hashes (place - 1) 0 < hash) → (place < length hashes → hash ≤ get_or hashes place 0)
    → IsPartitionPoint (λ k. nat_lt k hash ≡ true) (λ k. nat_lt k hash ≡ false) hashes place
place_is hashes hash up place within before at =
    point_at (λ k. nat_lt k hash) hashes (lower_first hashes hash up) place
    (λ some d. rw (get_or_default hashes (place - 1) d 0 (omega (arith, some, within))) (is_lower (get_or hashes (place - 1) 0) hash (before some)))
    (λ lt d. rw (get_or_default hashes place d 0 lt) (is_not_lower (get_or hashes place 0) hash (at lt))) within

pub returns-then-hashes-place-clause-point : goal.returns-then-hashes-place-clause-point
returns-then-hashes-place-clause-point c =
    IsPartitionPoint-from_clause (λ k. nat_lt k c.args.hash) c.args.hashes.now c.partition_point.result c.partition_point.ensures.partitioned (lower_first c.args.hashes.now c.args.hash c.requires) (λ a r q k. search rules)

pub loop-place-init : goal.loop-place-init
loop-place-init c = (
  omega (arith, c.min-place.ensures),
  λ some. elim c.else-place-gt0.branch [
    | else-place-gt0-via-then-place-gt0+else-hashes-place w ↦ w.if-hashes-place.false
    | else-place-gt0-via-else-place-gt0 w ↦ absurd (omega (arith, some, w.if-place-gt0.false))
  ],
)

pub loop-place-preserved : goal.loop-place-preserved
loop-place-preserved c = (
  omega (arith, c.loop-place-test.true, c.min-end.ensures),
  λ some. let same : c.loop-place.place ≡ c.loop-place.place + 1 - 1 = omega arith in subst (λ k. get_or c.args.hashes.now k 0 < c.args.hash) same c.if-hashes-place-2.false,
)

pub returns-then-hashes-place-2-clause-point : goal.returns-then-hashes-place-2-clause-point
returns-then-hashes-place-2-clause-point c = place_is c.args.hashes.now c.args.hash c.requires c.loop-place.place c.loop-place.invariant.0 c.loop-place.invariant.1 (λ lt. c.if-hashes-place-2.true)

pub returns-clause-point : goal.returns-clause-point
returns-clause-point c =
    IsPartitionPoint-from_clause (λ k. nat_lt k c.args.hash) c.args.hashes.now c.partition_point-2.result c.partition_point-2.ensures.partitioned (lower_first c.args.hashes.now c.args.hash c.requires) (λ a r q k. search rules)
