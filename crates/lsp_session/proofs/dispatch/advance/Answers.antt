use Rattle.std.proofs.Common.{◌≡◌, Err, sym, ap, ◌∙◌}
use Rattle.work_config.specs.declared.fault.ServeFault.TheVariants as served
use Rattle.lsp_core.proofs.FaultLemmas.{of_served}
use Rattle.lsp_core.proofs.StampLemmas.{exhausts_stamps}
use Rattle.lsp_session.proofs.dispatch.advance.Goals as goal

pub returns-in-Err-clause-stamps : goal.returns-in-Err-clause-stamps
returns-in-Err-clause-stamps g c = λ free out opening config h after.
    let is : c.from.result ≡ served.Exhausted = cc in
    exhausts_stamps opening config h (c.in-Err.ensures.stamps free (ap Err (of_served c.in-Err.fault (sym c.from.ensures ∙ is))) opening config h after)
