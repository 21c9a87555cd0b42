use Rattle.std.proofs.Common.{◌<◌, List, get_or, length, refl, arith}
use Rattle.proto_names.specs.declared.hashed.HashedDecls.{HashedDecls}
use Rattle.proto_names.proofs.Walked.{one_more_bucket, still_long, still_there}
use Rattle.proto_names.proofs.buckets.Buckets.renumber.Goals as goal

pub renumber-requires : goal.renumber-requires
renumber-requires c =
    let old : List HashedDecls = c.args.self.now.list.items in
    let nothing : HashedDecls = c.bucket-item.result in
    let long : c.loop-bucket.bucket-index < length c.loop-bucket.bucket-items = omega (arith, c.loop-bucket-test.true, c.loop-bucket.auto.bucket-items) in
    rw (still_there old c.loop-bucket.bucket-items c.loop-bucket.bucket-index c.loop-bucket.invariant.1 nothing long)
    (c.requires c.loop-bucket.bucket-index nothing (still_long old c.loop-bucket.bucket-items c.loop-bucket.bucket-index c.loop-bucket.invariant.1 nothing long))

pub loop-bucket-preserved : goal.loop-bucket-preserved
loop-bucket-preserved c =
    let old : List HashedDecls = c.args.self.now.list.items in
    let nothing : HashedDecls = c.bucket-item.result in
    let long : c.loop-bucket.bucket-index < length c.loop-bucket.bucket-items = omega (arith, c.loop-bucket-test.true, c.loop-bucket.auto.bucket-items) in
    one_more_bucket c.args.change c.args.at old c.loop-bucket.bucket-items c.loop-bucket.bucket-index c.loop-bucket.invariant.0 c.loop-bucket.invariant.1 nothing long
    (record { hashes = (let b = get_or c.loop-bucket.bucket-items c.loop-bucket.bucket-index nothing in b.hashes); decls = c.renumber.new.decls }) refl c.renumber.ensures
