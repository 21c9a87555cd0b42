use Rattle.std.proofs.Common.{subst}
use Rattle.std.proofs.lemmas.List.{take_all}
use Rattle.proto_names.specs.Buckets.{AreCopies}
use Rattle.proto_names.proofs.Copies.{none, one_more}
use Rattle.proto_names.proofs.buckets.Buckets.copy.Goals as goal

pub loop-bucket-init : goal.loop-bucket-init
loop-bucket-init c = none c.in_ok-list.list.items c.in_ok-list.ensures.items

pub loop-bucket-preserved : goal.loop-bucket-preserved
loop-bucket-preserved c =
    one_more c.as_slice-bucket-items.result.now c.loop-bucket.list.items c.push.new.self.items c.loop-bucket.bucket-index c.bucket-item.result c.in_ok-copy.field-0 c.loop-bucket-test.true c.bucket-item.is
    c.in_ok-copy.ensures.hashes c.in_ok-copy.ensures.decls c.loop-bucket.invariant c.in_ok-push.ensures.items

pub returns : goal.returns
returns c =
    let all = c.as_slice-bucket-items.result.now in
    subst (λ old. AreCopies old c.loop-bucket.list.items) c.as_slice-bucket-items.ensures.value
    (subst (λ old. AreCopies old c.loop-bucket.list.items) (take_all c.loop-bucket.bucket-index all c.loop-bucket-test.false) c.loop-bucket.invariant)
