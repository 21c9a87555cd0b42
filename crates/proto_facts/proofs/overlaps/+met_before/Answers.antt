use Rattle.std.proofs.Common.{◌∙◌, ◌++◌, [], sym, ap, length}
use Rattle.proto_facts.specs.Reach.{met_after, met_also}
use Rattle.proto_facts.proofs.OverlapLemmas.{length-met, both-met}
use Rattle.proto_facts.proofs.overlaps.+met_before.Goals as goal

pub add_met_also-requires : goal.add_met_also-requires
add_met_also-requires t c = ap length (c.as_slice.ensures.value ∙ c.in_ok-later.ensures) ∙ length-met [] c.split_at.result.1.now

pub returns : goal.returns
returns t c =
    let front = c.split_at.result.0.now in
    let back = c.split_at.result.1.now in
    c.in_ok-add_met_also.ensures
    ∙ ap (λ bs. bs ++ met_also front back c.as_slice.result.now) c.in_ok-found.ensures
    ∙ ap (λ bs. met_after [] front ++ met_also front back bs) (c.as_slice.ensures.value ∙ c.in_ok-later.ensures)
    ∙ both-met front back
    ∙ ap (met_after []) (sym c.split_at.ensures.by_index.0)
