-- Which faults the start of workers can end with.
use Rattle.work_pool.specs.declared.fault.PoolFault.{PoolFault}
use Rattle.work_pool.specs.declared.fault.PoolFault.TheVariants as pool
use Rattle.work_config.specs.Fault.{fault_of_pool, serve_fault_of, IsOfWorkers}

pub of_pool : (fault : PoolFault) → IsOfWorkers (serve_fault_of (fault_of_pool fault))
of_pool pool.Memory = tt
of_pool pool.ThreadRefused = tt
