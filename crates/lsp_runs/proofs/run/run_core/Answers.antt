use Rattle.work_config.specs.declared.fault.CoreFault.TheVariants as core
use Rattle.work_space.proofs.FirstEvents.{refused_with}
use Rattle.std.proofs.Common.{rules, ◌≡◌, ◌-◌, ◌++◌, ◌∷◌, [], length, filter, map, Err, sym, ap, subst, ◌∙◌, arith, append_assoc, append-nil}
use Rattle.std.proofs.lemmas.List.{map-append, nil_from_length}
use Rattle.std.specs.Vec.Iter.{into_iter_items}
use Rattle.lsp_core.specs.Core.{processed}
use Rattle.lsp_core.specs.Run.{is_message, HasRun}
use Rattle.lsp_runs.specs.Listed.{incoming_of}
use Rattle.lsp_core.specs.View.{core_state}
use Rattle.lsp_runs.proofs.RunLemmas.{HasRunTo, run_none, run_more, run_counted, run_out, has_run}
use Rattle.lsp_core.proofs.StampLemmas.{files_alone}
use Rattle.lsp_runs.proofs.run.run_core.Goals as goal

pub loop-event-init : goal.loop-event-init
loop-event-init c = record {
  parts = search rules;
  run = run_none c.args.config (core_state c.in_ok-core.core) c.new-replies.result.items c.new-verdicts.result.items c.in_ok-core.ensures.is_after c.new-replies.ensures.items c.new-verdicts.ensures.items;
  «open» = c.in_ok-core.ensures.open;
}

pub loop-event-preserved : goal.loop-event-preserved
loop-event-preserved c =
    let at = c.loop-event in
    let next : into_iter_items at.event-iterator ≡ c.in-Some.event ∷ into_iter_items c.next.new.self = search rules in
    record {
      parts = append_assoc at.yielded (c.in-Some.event ∷ []) (into_iter_items c.next.new.self) ∙ ap (λ l. at.yielded ++ l) (sym next) ∙ at.invariant.parts;
      run = subst (λ es. HasRunTo c.args.config (core_state c.handle.new.core) es c.handle.new.replies.items c.handle.new.verdicts.items) (sym (map-append incoming_of at.yielded (c.in-Some.event ∷ [])))
          (run_more c.args.config (core_state at.core) (core_state c.handle.new.core) (map incoming_of at.yielded) (incoming_of c.in-Some.event) at.replies.items c.handle.new.replies.items at.verdicts.items c.handle.new.verdicts.items at.invariant.run
          (λ h before. c.in_ok-handle.ensures.follows 0 c.args.config h before));
      «open» = c.in_ok-handle.ensures.open at.invariant.open;
    }

pub overflow_sub-processed : goal.overflow_sub-processed
overflow_sub-processed c =
    let at = c.loop-event in
    let none : into_iter_items at.event-iterator ≡ [] = nil_from_length (into_iter_items at.event-iterator) (sym at.event-iterator.rest.ok.0 ∙ c.in-None.ensures.steps.0) in
    let all : at.yielded ≡ c.args.events.items = sym (append-nil at.yielded) ∙ ap (λ l. at.yielded ++ l) (sym none) ∙ at.invariant.parts in
    let counted = run_counted c.args.config (core_state at.core) (map incoming_of at.yielded) at.replies.items at.verdicts.items at.invariant.run in
    let arrived : c.count_messages-arrived.result ≡ length (filter is_message (map incoming_of at.yielded)) = c.count_messages-arrived.ensures ∙ ap (λ es. length (filter is_message (map incoming_of es))) (c.as_slice.ensures.value ∙ sym all) in
    omega (arith, counted, arrived, c.unprocessed.ensures)

pub returns-clause-run : goal.returns-clause-run
returns-clause-run c =
    let at = c.loop-event in
    let none : into_iter_items at.event-iterator ≡ [] = nil_from_length (into_iter_items at.event-iterator) (sym at.event-iterator.rest.ok.0 ∙ c.in-None.ensures.steps.0) in
    let all : at.yielded ≡ c.args.events.items = sym (append-nil at.yielded) ∙ ap (λ l. at.yielded ++ l) (sym none) ∙ at.invariant.parts in
    let run = at.invariant.run in
    let counted = run_counted c.args.config (core_state at.core) (map incoming_of at.yielded) at.replies.items at.verdicts.items run in
    let arrived : c.count_messages-arrived.result ≡ length (filter is_message (map incoming_of at.yielded)) = c.count_messages-arrived.ensures ∙ ap (λ es. length (filter is_message (map incoming_of es))) (c.as_slice.ensures.value ∙ sym all) in
    let count : c.count_messages-arrived.result - c.unprocessed.result ≡ processed run.history = omega (arith, counted, arrived, c.unprocessed.ensures) in
    subst (λ es. HasRun c.args.config (map incoming_of es) at.replies.items at.verdicts.items (c.count_messages-arrived.result - c.unprocessed.result)) all
    (has_run c.args.config (core_state at.core) (map incoming_of at.yielded) at.replies.items at.verdicts.items (c.count_messages-arrived.result - c.unprocessed.result) run count)

pub returns-in_err-handle-clause-exhausted : goal.returns-in_err-handle-clause-exhausted
returns-in_err-handle-clause-exhausted c = λ out.
    let at = c.loop-event in
    let event = c.in-Some.event in
    let later = into_iter_items c.next.new.self in
    let is = refused_with c.in_err-handle.field-0.0 core.Exhausted c.from_residual-in_err-handle.result c.from_residual-in_err-handle.ensures.1 out in
    let next : into_iter_items at.event-iterator ≡ event ∷ later = search rules in
    let parts : map incoming_of at.yielded ++ incoming_of event ∷ map incoming_of later ≡ map incoming_of c.args.events.items =
    sym (map-append incoming_of at.yielded (event ∷ later)) ∙ ap (map incoming_of) (ap (λ l. at.yielded ++ l) (sym next) ∙ at.invariant.parts) in
    run_out c.args.config (core_state at.core) (map incoming_of at.yielded) (incoming_of event) (map incoming_of later) (map incoming_of c.args.events.items) at.replies.items at.verdicts.items at.invariant.run parts
    (λ h before. c.in_err-handle.ensures.stamps at.invariant.open (ap Err is) 0 c.args.config h before)

pub returns-in_err-core-clause-exhausted : goal.returns-in_err-core-clause-exhausted
returns-in_err-core-clause-exhausted c = λ out.
    let is = refused_with c.in_err-core.field-0.0 core.Exhausted c.from_residual.result c.from_residual.ensures.1 out in
    files_alone c.args.config (length (filter is_message (map incoming_of c.args.events.items))) (c.in_err-core.ensures.exhausted (ap Err is))
