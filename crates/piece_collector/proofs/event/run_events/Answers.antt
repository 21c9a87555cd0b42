use Rattle.std.proofs.Common.{rules, sym, ap, ◌∙◌, ◌≡◌, ◌∷◌, ◌++◌, []}
use Rattle.std.proofs.lemmas.Result.{err_from_is_err_and}
use Rattle.std.specs.Vec.Iter.{into_iter_items}
use Rattle.piece_collector.specs.Runs.{event_of}
use Rattle.piece_collector.proofs.Listed.{ran_more, stopped_at, joined}
use Rattle.piece_collector.proofs.event.run_events.Goals as goal

pub loop-event-preserved : goal.loop-event-preserved
loop-event-preserved g c =
    let next : into_iter_items c.loop-event.event-iterator ≡ c.in-Some.event ∷ into_iter_items c.next.new.self = search rules in
    record {
      here = c.step.ensures.here;
      parts = joined c.loop-event.yielded (c.in-Some.event ∷ []) (into_iter_items c.next.new.self) ∙ (ap (λ l. c.loop-event.yielded ++ l) (sym next) ∙ c.loop-event.invariant.parts);
      ran = λ o h s. ran_more event_of o h c.loop-event.yielded c.in-Some.event c.loop-event.board c.step.new.board c.loop-event.verdicts.items c.step.new.verdicts.items (c.loop-event.invariant.ran o h s) c.in_ok-step.ensures.is_after c.in_ok-step.ensures.answer;
    }

pub returns-in_err-step-clause-err : goal.returns-in_err-step-clause-err
returns-in_err-step-clause-err g c =
    let next : into_iter_items c.loop-event.event-iterator ≡ c.in-Some.event ∷ into_iter_items c.next.new.self = search rules in
    let p = err_from_is_err_and c.from_residual.result c.from_residual.ensures.1 in
    rw (p.1, p.2) (λ o h s.
    stopped_at event_of o h c.args.events.items c.loop-event.yielded c.in-Some.event (into_iter_items c.next.new.self) c.loop-event.board c.step.new.board c.loop-event.verdicts.items c.in_err-step.field-0.0
    (ap (λ l. c.loop-event.yielded ++ l) (sym next) ∙ c.loop-event.invariant.parts) c.in_err-step.ensures.err c.in_err-step.ensures.refused (c.loop-event.invariant.ran o h s))
