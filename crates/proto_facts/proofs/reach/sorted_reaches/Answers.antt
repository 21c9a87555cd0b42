use Rattle.std.proofs.Common.{sym, ap, ◌∙◌, rules}
use Rattle.std.specs.List.{list_any}
use Rattle.std.proofs.lemmas.List.Sorted.{IsNonDecreasingBy-from_sort_by_key, list_any-IsPermutation}
use Rattle.proto_facts.specs.Reach.{between, holds}
use Rattle.proto_facts.specs.declared.reach.Reach.{Reach}
use Rattle.proto_facts.proofs.ReachLemmas.{any-map, any-met}
use Rattle.proto_facts.proofs.reach.sorted_reaches.Goals as goal

pub returns-clause-order : goal.returns-clause-order
returns-clause-order c = IsNonDecreasingBy-from_sort_by_key (λ (r : Reach). r.low) _ c.in_ok-sort_by_key.ensures.sorted (λ a r q k. search rules)

pub returns-clause-same : goal.returns-clause-same
returns-clause-same c = λ n.
    sym (list_any-IsPermutation (holds n) _ _ c.sort_by_key.ensures.permutation) ∙ ap (list_any (holds n)) c.in_ok-found.ensures ∙ any-map n c.args.good.now

pub returns-clause-meets : goal.returns-clause-meets
returns-clause-meets c = λ r.
    sym (list_any-IsPermutation (between r.high r.low) _ _ c.sort_by_key.ensures.permutation) ∙ ap (list_any (between r.high r.low)) c.in_ok-found.ensures ∙ any-met r c.args.good.now
