use denote.Param.Send.{sendable}
use Rattle.std.proofs.Crossing.{crosses}
use Rattle.work_pool.proofs.Crossing.{jobs_send, results_send}
use Rattle.work_pool.proofs.pool.Pool.add_worker.Goals as goal

pub spawn-requires-send-F : goal.spawn-requires-send-F
spawn-requires-send-F g c κs within = search (sendable, crosses, jobs_send, results_send) depth 40
