use Rattle.std.proofs.Common.{rules, sym, subst}
use Rattle.std.specs.Prelude.{nat_lt}
use Rattle.std.specs.List.Sorted.{IsPermutation}
use Rattle.std.proofs.lemmas.List.Sorted.{answers_always}
use Rattle.proto_facts.proofs.TwiceLemmas.{distinct-from-sorted}
use Rattle.proto_facts.proofs.twice.are_distinct.Goals as goal

pub returns : goal.returns
returns c = λ rises.
    let same = subst (IsPermutation c.args.numbers.items) (sym c.as_slice.ensures.value) c.sort_unstable.ensures.permutation in
    distinct-from-sorted c.args.numbers.items c.as_slice.result.now c.is_sorted_by.result same (c.is_sorted_by.ensures.cases nat_lt (answers_always _ _ _ (λ f a r g k. search rules))) rises
