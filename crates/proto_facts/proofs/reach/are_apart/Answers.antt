use Rattle.std.proofs.Common.{subst}
use Rattle.std.specs.List.Sorted.{IsPermutation}
use Rattle.proto_facts.specs.Reach.{Rise}
use Rattle.proto_facts.proofs.ReachLemmas.{apart-from-rise}
use Rattle.proto_facts.proofs.reach.are_apart.Goals as goal

pub returns : goal.returns
returns c = λ up.
    let good = c.args.good.now in
    let same = subst (λ rs. IsPermutation rs c.sort_by_key.new.self.items) c.in_ok-sorted.ensures c.in_ok-sort_by_key.ensures.permutation in
    let rises = subst (Rise 0) c.as_slice.ensures.value (c.rise.ensures up) in
    apart-from-rise good c.sort_by_key.new.self.items same rises
