use Rattle.std.proofs.Common.{◌≡◌, []}
use Rattle.work_pool.specs.Pool.{pool_of}
use Rattle.work_pool.proofs.pool.Pool.start.Given as goal

abbrev pub invariant-loop-worker : goal.invariant-loop-worker
invariant-loop-worker g l = l.pool ≡ pool_of l._worker []
