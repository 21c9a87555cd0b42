use Rattle.std.proofs.Common.{◌∙◌, ◌==◌, sym, arith, rules}
use Rattle.std.proofs.lemmas.List.Sorted.{IsPartitionPoint-from_clause}
use Rattle.proto_names.proofs.Hashes.{one_alone}
use Rattle.proto_names.proofs.hashed.count_of.Goals as goal
use Rattle.proto_names.proofs.hashed.count_of.Goals.{then-hashes-eq1-via-then-hashes-eq1, then-hashes-eq1-via-else-hashes-eq1+then-hashes-hash-2}

pub returns-then-hashes-eq1-clause-point : goal.returns-then-hashes-eq1-clause-point
returns-then-hashes-eq1-clause-point c = one_alone c.args.hashes.now c.args.hash c.requires (sym c.is_empty.ensures ∙ c.if-is_empty.false) c.if-hashes-hash.false (λ lt e. elim c.then-hashes-eq1.branch [
  | then-hashes-eq1-via-then-hashes-eq1 w ↦ absurd (omega (arith, lt, w.if-hashes-eq1.true))
  | then-hashes-eq1-via-else-hashes-eq1+then-hashes-hash-2 w ↦ absurd (w.if-hashes-hash-2.true e)
])

pub returns-clause-point : goal.returns-clause-point
returns-clause-point c = IsPartitionPoint-from_clause (λ k. k == c.args.hash) c.args.hashes.now c.partition_point.result c.partition_point.ensures.partitioned c.requires (λ a r q k. search rules)
