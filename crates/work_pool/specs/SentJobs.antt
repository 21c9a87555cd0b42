-- The jobs that are out: sent, and their result not received.
use Rattle.std.specs.Prelude.{ℕ, ◌==◌, ◌<◌, ◌≤◌, List, length, remove, sum_by, position, unwrap_or}
use Rattle.piece_collector.specs.Views.{TextAt}
use Rattle.work_pool.specs.declared.sent_jobs.SentJob.{SentJob}

-- what is noted of a job that is sent
abbrev pub noted : TextAt → SentJob
noted job = record { stamp = job.stamp; bytes = length job.text }

-- how many bytes the texts of these jobs have together
abbrev pub bytes_of : List SentJob → ℕ
bytes_of sent = sum_by (λ job. job.bytes) sent

-- another job may be sent: fewer than 256 are out, and their texts have at most 32 MiB
abbrev pub HasRoom : List SentJob → Type 0
HasRoom sent = (length sent < 256) × (bytes_of sent ≤ 33554432)

-- the jobs without the first that has this stamp, or if none has it, without the first of all
abbrev pub without_job : ℕ → List SentJob → List SentJob
without_job stamp sent = remove sent (unwrap_or (position (λ job. job.stamp == stamp) sent) 0)
