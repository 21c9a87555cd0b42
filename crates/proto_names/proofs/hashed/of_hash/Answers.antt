use Rattle.std.proofs.Common.{◌≡◌, ◌==◌, true, false, drop}
use Rattle.std.specs.Prelude.{nat_lt}
use Rattle.std.specs.List.Sorted.{IsNonDecreasing, IsPartitionPoint}
use Rattle.proto_names.proofs.Hashes.{hash_first, of_one_hash}
use Rattle.proto_names.proofs.PackageFronts.{to_end}
use Rattle.proto_names.proofs.hashed.of_hash.Goals as goal

pub count_of-count-requires : goal.count_of-count-requires
count_of-count-requires c =
    let up : IsNonDecreasing c.as_slice-hashes.result.now = rw c.as_slice-hashes.ensures.value c.requires.ascending in
    rw (to_end c.start_of-start.result c.as_slice-hashes.result.now) (hash_first c.as_slice-hashes.result.now c.args.hash up c.start_of-start.result c.start_of-start.ensures.point)

pub returns : goal.returns
returns c = λ number are.
    let start : IsPartitionPoint (λ k. nat_lt k c.args.hash ≡ true) (λ k. nat_lt k c.args.hash ≡ false) c.args.hashed.now.hashes.items c.start_of-start.result =
    rw c.as_slice-hashes.ensures.value at c.start_of-start.ensures.point in
    let end : IsPartitionPoint (λ k. (k == c.args.hash) ≡ true) (λ k. (k == c.args.hash) ≡ false) (drop c.start_of-start.result c.args.hashed.now.hashes.items) c.count_of-count.result =
    rw (to_end c.start_of-start.result c.as_slice-hashes.result.now, c.as_slice-hashes.ensures.value) at c.count_of-count.ensures.point in
    rw (to_end c.start_of-start.result c.as_slice-decls.result.now, c.as_slice-decls.ensures.value)
    (of_one_hash c.args.hashed.now.hashes.items c.args.hash c.requires.ascending number c.args.hashed.now.decls.items c.start_of-start.result c.count_of-count.result are start end)
