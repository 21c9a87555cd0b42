use Rattle.work_config.proofs.FaultLemmas.{of_pool}
use Rattle.work_config.proofs.workers.start_pool.Goals as goal

pub returns-in-Err-clause-fault : goal.returns-in-Err-clause-fault
returns-in-Err-clause-fault g c = rw c.from.ensures (of_pool c.in-Err.fault)
