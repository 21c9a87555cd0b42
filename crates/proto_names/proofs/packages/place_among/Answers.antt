use Rattle.std.proofs.Common.{List, ℕ, rules}
use Rattle.std.specs.Cmp.Lexicographic.{slice_cmp}
use Rattle.std.specs.Ordering.{nat_cmp, is_lt}
use Rattle.std.proofs.lemmas.List.Sorted.{IsPartitionPoint-from_clause}
use Rattle.proto_names.specs.declared.packages.PackagedFile.{PackagedFile}
use Rattle.proto_names.proofs.Prefixes.{parted}
use Rattle.proto_names.proofs.packages.place_among.Goals as goal

pub returns-clause-between : goal.returns-clause-between
returns-clause-between c =
    let key : List ℕ = c.args.name.now in
    let bytes : PackagedFile → List ℕ = λ p. p.name in
    IsPartitionPoint-from_clause (λ p. is_lt (slice_cmp nat_cmp (bytes p) key)) c.args.found.now c.partition_point.result
    c.partition_point.ensures.partitioned (parted bytes c.args.found.now key c.requires) (λ a r q k. search rules)
