use Rattle.std.proofs.Common.{Err, ap}
use Rattle.work_config.specs.declared.fault.CoreFault.TheVariants as core
use Rattle.work_space.proofs.FirstEvents.{refused_with}
use Rattle.std.specs.Option.{option_to_list}
use Rattle.lsp_runs.specs.Listed.{incoming_of}
use Rattle.lsp_core.specs.View.{core_state}
use Rattle.lsp_runs.proofs.RunLemmas.{followed, out_behind}
use Rattle.lsp_runs.proofs.run.handle.Goals as goal

pub returns-clause-follows : goal.returns-clause-follows
returns-clause-follows c = λ opening config h before.
    followed opening config (core_state c.args.core.now) (core_state c.take.new.core) (core_state c.advance.new.self) (incoming_of c.args.event) h c.args.replies.now.items c.in_ok-later.later.items c.append.new.replies.items
    c.args.verdicts.now.items (option_to_list c.in_ok-verdict.verdict) c.push_verdict.new.verdicts.items before (c.in_ok-verdict.ensures.comes opening config h before) (c.in_ok-later.ensures.advances opening config)
    (c.in_ok-verdict.ensures.verdict opening config h before) c.in_ok-push_verdict.ensures c.in_ok-append.ensures

pub returns-in_err-later-clause-stamps : goal.returns-in_err-later-clause-stamps
returns-in_err-later-clause-stamps c = λ free out opening config h before.
    let is = refused_with c.in_err-later.field-0.0 core.Exhausted c.from_residual-in_err-later.result c.from_residual-in_err-later.ensures.1 out in
    out_behind opening config (core_state c.take.new.core) (incoming_of c.args.event) h (c.in_ok-verdict.ensures.comes opening config h before) (c.in_err-later.ensures.stamps (c.in_ok-verdict.ensures.open free) (ap Err is) opening config)
