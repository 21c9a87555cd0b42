use Rattle.std.proofs.Common.{Err, ap, ◌∷◌, ◌++◌, ◌∙◌, map, sym, subst}
use Rattle.work_space.proofs.FirstEvents.{refused_with}
use Rattle.work_config.specs.Fault.{core_fault_of}
use Rattle.work_config.specs.declared.fault.CoreFault.TheVariants as core
use Rattle.lsp_core.specs.Core.{Advance, IsAfter}
use Rattle.lsp_core.specs.Steps.{CanStep}
use Rattle.lsp_core.specs.View.{core_state}
use Rattle.lsp_core.proofs.CoreLemmas.{comes_to_analysis}
use Rattle.lsp_core.proofs.FaultLemmas.{of_board, not_of_board}
use Rattle.lsp_core.proofs.StampLemmas.{later_finds_none}
use Rattle.lsp_core.proofs.session_core.Core.take_steps_in_shares.Goals as goal

pub steps-preserved : goal.steps-preserved
steps-preserved g c = record {
  fault = c.take_step.ensures.fault ∙ c.prepare_in_shares.ensures.fault ∙ c.steps.invariant.fault;
  taken = λ opening config h before.
      let p = c.steps.invariant.taken opening config h before in
      let now = map Advance p.steps ++ h in
      let step = c.in-Some.step in
      let may = c.in-Some.ensures.may opening config now p.is_after in
      let prepared : IsAfter opening config (core_state c.prepare_in_shares.new.self) now = subst (λ s. IsAfter opening config s now) (sym c.in_ok-prepare_in_shares.ensures.state) p.is_after in
      record {
        steps = step ∷ p.steps;
        is_after = c.in_ok-take_step.ensures.after opening config now prepared may;
        replied = c.in_ok-take_step.ensures.replied opening config now _ prepared may p.replied;
      };
}

pub take_step-requires-clause-can : goal.take_step-requires-clause-can
take_step-requires-clause-can g c = subst (λ s. CanStep s c.in-Some.step) (sym c.in_ok-prepare_in_shares.ensures.state) c.in-Some.ensures.can

pub returns-clause-advances : goal.returns-clause-advances
returns-clause-advances g c = λ opening config h before.
    let p = c.steps.invariant.taken opening config h before in
    record { taken = p; settled = c.next_step.ensures.settled c.in_default.is opening config (map Advance p.steps ++ h) p.is_after }

pub returns-in_err-take_step-clause-stamps : goal.returns-in_err-take_step-clause-stamps
returns-in_err-take_step-clause-stamps g c = λ none opening config h before.
    let fault = c.in_err-take_step.field-0.0 in
    let is = refused_with (core_fault_of fault) core.Exhausted c.from_residual-in_err-take_step.result c.from_residual-in_err-take_step.ensures.1 none in
    let taken = c.steps.invariant.taken opening config h before in
    let now = map Advance taken.steps ++ h in
    let prepared : IsAfter opening config (core_state c.prepare_in_shares.new.self) now = subst (λ s. IsAfter opening config s now) (sym c.in_ok-prepare_in_shares.ensures.state) taken.is_after in
    later_finds_none opening config taken.steps h (c.in_err-take_step.ensures.stamps (ap Err (of_board fault is)) opening config now prepared)

pub returns-in_err-take_step-clause-threads : goal.returns-in_err-take_step-clause-threads
returns-in_err-take_step-clause-threads g c = λ out.
    let fault = c.in_err-take_step.field-0.0 in
    absurd (not_of_board fault (refused_with (core_fault_of fault) core.ThreadRefused c.from_residual-in_err-take_step.result c.from_residual-in_err-take_step.ensures.1 out))

pub returns-in_err-prepare_in_shares-clause-threads : goal.returns-in_err-prepare_in_shares-clause-threads
returns-in_err-prepare_in_shares-clause-threads g c = λ out opening config h before.
    let taken = c.steps.invariant.taken opening config h before in
    comes_to_analysis opening config _ h taken.steps c.in-Some.step taken.is_after c.in-Some.ensures.can (c.in-Some.ensures.may opening config (map Advance taken.steps ++ h) taken.is_after) c.in_err-prepare_in_shares.ensures.needs
