-- How contracts see a pool.
use Rattle.std.specs.Prelude.{ℕ, List, length, max, min}
use Rattle.work_pool.specs.declared.sent_jobs.SentJob.{SentJob}
use Rattle.work_pool.specs.SentJobs.{bytes_of}

-- how many workers there are, and the jobs that were sent whose result was not received: which, how many, and how many bytes their texts have
pub record PoolView : Type 0 where
  pub workers : ℕ
  pub sent : List SentJob
  pub out : ℕ
  pub bytes : ℕ

-- a pool of so many workers, while these jobs are out
abbrev pub pool_of : ℕ → List SentJob → PoolView
pool_of workers sent = record { workers = workers; sent = sent; out = length sent; bytes = bytes_of sent }

-- how many workers are started where so many are asked for
abbrev pub workers_for : ℕ → ℕ
workers_for asked = max 1 (min asked 64)
