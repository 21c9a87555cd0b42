use Rattle.std.proofs.Common.{◌≡◌, ◌∙◌, ◌++◌, ◌%◌, ◌<◌, List, ap, filter, get_or, length, subst, sym, take, arith}
use Rattle.std.proofs.lemmas.List.{length-set, take_all}
use Rattle.proto_names.specs.declared.hashed.HashedDecl.{HashedDecl}
use Rattle.proto_names.specs.declared.hashed.HashedDecls.{HashedDecls}
use Rattle.proto_names.specs.Buckets.{is_in, AreInBuckets}
use Rattle.proto_names.proofs.Leaving.{bucket_without, in_both, next_came, one_came}
use Rattle.proto_names.proofs.buckets.Buckets.add.Goals as goal

pub put_in-requires-clause-as_many : goal.put_in-requires-clause-as_many
put_in-requires-clause-as_many g c =
    let nothing : HashedDecl = record { hash = 0; decl = record { file = 0; number = 0 } } in
    let buckets : List HashedDecls = c.loop-one.self.list.items in
    let one : HashedDecl = get_or c.args.come.now c.loop-one.one-index nothing in
    let many : c.len-count.result ≡ length buckets = omega arith in
    let at : one.hash % length buckets ≡ c.bucket_of.result = sym (c.bucket_of.ensures.value ∙ ap (λ m. one.hash % m) many) in
    let order = g.O.EntryOrder.order c.args.files.now in
    let there : List HashedDecl = c.requires.buckets.0 ++ take c.loop-one.one-index c.args.come.now in
    in_both order (filter (is_in (length buckets) c.bucket_of.result) there) c.index_mut.result.now
    (bucket_without order there one buckets c.bucket_of.result at (omega arith) c.index_mut.result.now c.index_mut.result.now c.index_mut.ensures.value (c.loop-one.invariant.come c.requires.buckets.0 c.requires.buckets.1))

pub loop-one-preserved : goal.loop-one-preserved
loop-one-preserved g c =
    let nothing : HashedDecl = record { hash = 0; decl = record { file = 0; number = 0 } } in
    let buckets : List HashedDecls = c.loop-one.self.list.items in
    let one : HashedDecl = get_or c.args.come.now c.loop-one.one-index nothing in
    let many : c.len-count.result ≡ length buckets = omega arith in
    let at : one.hash % length buckets ≡ c.bucket_of.result = sym (c.bucket_of.ensures.value ∙ ap (λ m. one.hash % m) many) in
    let within : c.bucket_of.result < length buckets = omega arith in
    let order = g.O.EntryOrder.order c.args.files.now in
    record {
      as_many = length-set buckets c.bucket_of.result c.put_in.new.bucket ∙ c.loop-one.invariant.as_many;
      come = λ entries were.
          let there : List HashedDecl = entries ++ take c.loop-one.one-index c.args.come.now in
          let are : AreInBuckets order there buckets = c.loop-one.invariant.come entries were in
          next_came order entries c.args.come.now _ c.loop-one.one-index nothing (omega arith)
          (one_came order there one buckets c.bucket_of.result at within c.index_mut.result.now c.put_in.new.bucket c.index_mut.ensures.value are
          (c.in_ok-put_in.ensures (filter (is_in (length buckets) c.bucket_of.result) there)
          (bucket_without order there one buckets c.bucket_of.result at within c.index_mut.result.now c.put_in.new.bucket c.index_mut.ensures.value are)));
    }

pub returns : goal.returns
returns g c = λ entries are.
    subst (λ es. AreInBuckets (g.O.EntryOrder.order c.args.files.now) es c.loop-one.self.list.items) (ap (λ (es : List HashedDecl). entries ++ es) (take_all c.loop-one.one-index c.args.come.now (omega arith)))
    (c.loop-one.invariant.come entries are)
