use Rattle.std.proofs.Common.{◌≡◌, List, map, length, arith}
use Rattle.std.specs.List.{flat_map}
use Rattle.std.proofs.lemmas.List.{length-map}
use Rattle.std.proofs.lemmas.Result.{IfOk-weaker}
use Rattle.proto_names.specs.declared.hashed.HashedDecl.{HashedDecl}
use Rattle.proto_names.specs.Buckets.{AreInBuckets}
use Rattle.proto_names.proofs.Dealing.{in_buckets}
use Rattle.proto_names.proofs.buckets.Buckets.of.Goals as goal

pub returns : goal.returns
returns g c =
    let order = g.O.EntryOrder.order c.args.files.now in
    let entries : List HashedDecl = flat_map (λ run. run.items) c.args.runs.items in
    let lists : List (List HashedDecl) = map (λ list. list.items) c.in_ok-lists.lists.items in
    let many : length lists ≡ c.bucket_count-count.result = omega (arith, length-map c.in_ok-lists.lists.items (λ list. list.items), c.in_ok-lists.ensures.len) in
    IfOk-weaker c.in_order.result _ (λ b. AreInBuckets order entries b.list.items)
    (λ b are. in_buckets order entries lists b.list.items c.bucket_count-count.result c.bucket_count-count.ensures many (rw c.as_slice-2.ensures.value at c.in_ok-lists.ensures.each) are)
    c.in_order.ensures
