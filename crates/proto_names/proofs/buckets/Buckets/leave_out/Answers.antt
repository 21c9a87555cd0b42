use Rattle.std.proofs.Common.{◌≡◌, ◌∙◌, ◌++◌, ◌%◌, ◌∷◌, ◌+◌, ◌-◌, ◌<◌, List, [], ap, append-nil, filter, get_or, length, subst, sym, take, arith}
use Rattle.std.proofs.lemmas.List.{length-set}
use Rattle.proto_names.specs.declared.hashed.HashedDecl.{HashedDecl}
use Rattle.proto_names.specs.declared.hashed.HashedDecls.{HashedDecls}
use Rattle.proto_names.specs.Buckets.{is_in, AreInBuckets}
use Rattle.proto_names.proofs.Leaving.{bucket_with, in_both, last_leaves, one_left}
use Rattle.proto_names.proofs.buckets.Buckets.leave_out.Goals as goal

pub take_out-requires : goal.take_out-requires
take_out-requires c =
    let nothing : HashedDecl = record { hash = 0; decl = record { file = 0; number = 0 } } in
    let buckets : List HashedDecls = c.loop-left.self.list.items in
    let last = c.loop-left.left - 1 in
    let one : HashedDecl = get_or c.args.gone.now last nothing in
    let more : last + 1 ≡ c.loop-left.left = omega (arith, c.loop-left-test.true) in
    let many : c.len-count.result ≡ length buckets = omega (arith, c.loop-left.invariant.as_many) in
    let at : one.hash % length buckets ≡ c.bucket_of.result = sym (c.bucket_of.ensures.value ∙ ap (λ m. one.hash % m) many) in
    let rest : List HashedDecl = c.requires.2.0 ++ take last c.args.gone.now in
    let were : AreInBuckets c.requires.0 (c.requires.2.0 ++ take (last + 1) c.args.gone.now) buckets = rw more (c.loop-left.invariant.out c.requires.0 c.requires.2.0 c.requires.1 c.requires.2.1) in
    let are : AreInBuckets c.requires.0 (rest ++ one ∷ []) buckets = last_leaves c.requires.0 c.requires.2.0 c.args.gone.now buckets last nothing (omega (arith, more, c.loop-left.invariant.within)) were in
    in_both c.requires.0 (filter (is_in (length buckets) c.bucket_of.result) rest ++ one ∷ []) c.index_mut.result.now
    (bucket_with c.requires.0 rest one buckets c.bucket_of.result at (omega (arith, many)) c.index_mut.result.now c.index_mut.result.now c.index_mut.ensures.value are)

pub loop-left-preserved : goal.loop-left-preserved
loop-left-preserved c =
    let nothing : HashedDecl = record { hash = 0; decl = record { file = 0; number = 0 } } in
    let buckets : List HashedDecls = c.loop-left.self.list.items in
    let last = c.loop-left.left - 1 in
    let one : HashedDecl = get_or c.args.gone.now last nothing in
    let more : last + 1 ≡ c.loop-left.left = omega (arith, c.loop-left-test.true) in
    let many : c.len-count.result ≡ length buckets = omega (arith, c.loop-left.invariant.as_many) in
    let at : one.hash % length buckets ≡ c.bucket_of.result = sym (c.bucket_of.ensures.value ∙ ap (λ m. one.hash % m) many) in
    let within : c.bucket_of.result < length buckets = omega (arith, many) in
    record {
      as_many = length-set buckets c.bucket_of.result c.take_out.new.bucket ∙ c.loop-left.invariant.as_many;
      within = omega (arith, c.loop-left.invariant.within);
      out = λ order entries total are_all.
          let rest : List HashedDecl = entries ++ take last c.args.gone.now in
          let were : AreInBuckets order (entries ++ take (last + 1) c.args.gone.now) buckets = rw more (c.loop-left.invariant.out order entries total are_all) in
          let are : AreInBuckets order (rest ++ one ∷ []) buckets = last_leaves order entries c.args.gone.now buckets last nothing (omega (arith, more, c.loop-left.invariant.within)) were in
          one_left order rest one buckets c.bucket_of.result at within c.index_mut.result.now c.take_out.new.bucket c.index_mut.ensures.value are
          (c.take_out.ensures order (filter (is_in (length buckets) c.bucket_of.result) rest) total
          (bucket_with order rest one buckets c.bucket_of.result at within c.index_mut.result.now c.take_out.new.bucket c.index_mut.ensures.value are));
    }

pub returns : goal.returns
returns c = λ order entries total are.
    let none : c.loop-left.left ≡ 0 = omega (arith, c.loop-left-test.false) in
    let left : AreInBuckets order (entries ++ take 0 c.args.gone.now) c.loop-left.self.list.items = subst (λ n. AreInBuckets order (entries ++ take n c.args.gone.now) c.loop-left.self.list.items) none (c.loop-left.invariant.out order entries total are) in
    subst (λ es. AreInBuckets order es c.loop-left.self.list.items) (append-nil entries) left
