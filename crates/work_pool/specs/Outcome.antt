-- What becomes of a job.
use Rattle.std.specs.Prelude.{◌≡◌, ℕ, string_bytes}
use Rattle.piece_collector.specs.Views.{TextAt}
use Rattle.work_index.specs.declared.done.Done.{Done}
use Rattle.work_index.specs.declared.done.Done.TheVariants as job

-- the piece of the job's text, with the job's path and stamp, or a failure with the job's path and stamp
abbrev pub IsOutcomeOf : TextAt → Done → Type 0
IsOutcomeOf asked (job.Made piece) = piece ≡ asked
IsOutcomeOf asked (job.Failed path stamp) = (string_bytes path ≡ asked.path) × (stamp ≡ asked.stamp)

-- the stamp of the job that this became of
abbrev pub stamp_of : Done → ℕ
stamp_of (job.Made piece) = piece.stamp
stamp_of (job.Failed path stamp) = stamp
