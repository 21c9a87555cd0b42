use Rattle.std.proofs.Common.{nat_lt, rules}
use Rattle.std.proofs.lemmas.List.Sorted.{IsPartitionPoint-from_clause, IsPartitionedBy-ltb}
use Rattle.proto_resolve.proofs.finding.start_of.Goals as goal

pub returns-clause-point : goal.returns-clause-point
returns-clause-point c =
    IsPartitionPoint-from_clause (λ r. nat_lt r.file c.args.file) c.args.decls.now c.partition_point.result c.partition_point.ensures.partitioned (IsPartitionedBy-ltb (λ r. r.file) c.args.decls.now c.args.file c.requires) (λ a r q k. search rules)
