use Rattle.std.proofs.Common.{◌≡◌, Err, ap}
use Rattle.work_config.specs.declared.fault.ServeFault.TheVariants as served
use Rattle.lsp_core.proofs.FaultLemmas.{not_of_writer}
use Rattle.lsp_session.proofs.ServingLemmas.{of_core_or_write}
use Rattle.lsp_session.proofs.taking.reply_to.Goals as goal

pub returns-in-Err-clause-fault : goal.returns-in-Err-clause-fault
returns-in-Err-clause-fault g c = of_core_or_write (g.K.ByteSink.counts c.args.writer.now) (g.K.ByteSink.counts c.args.writer.now) c.in-Err.fault c.in-Err.ensures.fault

pub returns-clause-stamps : goal.returns-clause-stamps
returns-clause-stamps g c = λ free out. absurd (not_of_writer c.write_all.result c.write_all.ensures.fault out)

pub returns-in-Err-clause-stamps : goal.returns-in-Err-clause-stamps
returns-in-Err-clause-stamps g c = λ free out.
    let is : c.in-Err.fault ≡ served.Exhausted = cc in
    c.in-Err.ensures.stamps free (ap Err is)
