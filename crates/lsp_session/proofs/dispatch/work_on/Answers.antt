use Rattle.std.proofs.Common.{◌≡◌, ◌<◌, length, subst, sym}
use Rattle.work_space.proofs.FirstEvents.{refused_with}
use Rattle.work_config.specs.Fault.{serve_fault_of}
use Rattle.work_config.specs.declared.fault.CoreFault.TheVariants as core
use Rattle.work_config.specs.declared.fault.ServeFault.TheVariants as served
use Rattle.lsp_core.specs.Core.{ExhaustsStamps}
use Rattle.lsp_core.proofs.FaultLemmas.{of_served}
use Rattle.lsp_core.specs.View.{core_state}
use Rattle.lsp_core.proofs.CoreLemmas.{if_ok, awaits-on, progresses}
use Rattle.lsp_session.proofs.dispatch.work_on.Goals as goal

pub returns-clause-progress : goal.returns-clause-progress
returns-clause-progress g c = if_ok c.advance.result c.advance.ensures.advances (λ replies advances config bodies body w.
    let old = core_state c.args.core.now in
    let handed = core_state c.hand_out.new.self in
    let took = core_state c.take_result.new.self in
    let still = awaits-on config old handed bodies body w (c.in_ok-hand_out.ensures.works 0 config) in
    progresses config took (core_state c.advance.new.core) bodies body replies.items (awaits-on config handed took bodies body still (c.in_ok-take_result.ensures.works 0 config)) (advances 0 config))

pub returns-in_err-hand_out-clause-stamps : goal.returns-in_err-hand_out-clause-stamps
returns-in_err-hand_out-clause-stamps g c = λ free out.
    let fault = c.in_err-hand_out.field-0.0 in
    let is = of_served fault (refused_with (serve_fault_of fault) served.Exhausted c.from_residual.result c.from_residual.ensures.1 out) in
    let memory : fault ≡ core.Memory = c.in_err-hand_out.ensures.memory free in
    cc

pub returns-in_err-take_result-clause-stamps : goal.returns-in_err-take_result-clause-stamps
returns-in_err-take_result-clause-stamps g c = λ free out.
    let fault = c.in_err-take_result.field-0.0 in
    absurd (c.in_err-take_result.ensures.stamps c.in_ok-hand_out.ensures.open (of_served fault (refused_with (serve_fault_of fault) served.Exhausted c.from_residual-in_err-take_result.result c.from_residual-in_err-take_result.ensures.1 out)))

pub returns-clause-stamps : goal.returns-clause-stamps
returns-clause-stamps g c = λ free out config bodies body w.
    let old = core_state c.args.core.now in
    let handed = core_state c.hand_out.new.self in
    let took = core_state c.take_result.new.self in
    let still = awaits-on config old handed bodies body w (c.in_ok-hand_out.ensures.works 0 config) in
    let now = awaits-on config handed took bodies body still (c.in_ok-take_result.ensures.works 0 config) in
    subst (λ bs. ExhaustsStamps 0 config (length bs)) now.came (c.advance.ensures.stamps c.in_ok-take_result.ensures.open out 0 config now.history now.is_after)

pub take_result-requires : goal.take_result-requires
take_result-requires g c = subst (λ n. 0 < n) (sym c.hand_out.ensures.waits) c.requires
