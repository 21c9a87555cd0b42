-- What is done to the board of a workspace where jobs go out, and where what became of one comes back.
use Rattle.std.specs.Prelude.{◌≡◌, ◌⊎◌, ℕ, ◌+◌, ◌<◌, List, [], ◌∷◌, ◌++◌, ⊤, Some, None, option_map, length, map, replicate, string_bytes, take}
use Rattle.piece_collector.specs.Board.{IsFirstWanted, current_text, WhateverCame, Records}
use Rattle.piece_collector.specs.Events.{Event, NextJob, Offer, Fail}
use Rattle.piece_collector.specs.History.{failure_on, stands_at}
use Rattle.piece_collector.specs.Views.{TextAt, BoardView}
use Rattle.piece_collector.specs.declared.verdict.Verdict.TheVariants.{Taken}
use Rattle.work_index.specs.declared.done.Done.{Done}
use Rattle.work_index.specs.declared.done.Done.TheVariants as job
use Rattle.work_pool.specs.Outcome.{stamp_of}
use Rattle.work_pool.specs.SentJobs.{noted, without_job, HasRoom}
use Rattle.work_pool.specs.declared.sent_jobs.SentJob.{SentJob}

-- the job for the first wanted path, with the current stamp and text of that path
pub record IsNextJob (opening : ℕ) (events : List Event) (job : TextAt) : Type 0 where
  pub first : IsFirstWanted opening events (Some job.path)
  pub current : option_map (current_text job.path) (stands_at opening events job.path) ≡ Some job

-- these are the jobs that come next, in order
abbrev pub AreNextJobs : ℕ → List Event → List TextAt → Type 0
AreNextJobs opening events [] = ⊤
AreNextJobs opening events (job ∷ jobs) = IsNextJob opening events job × AreNextJobs opening (NextJob ∷ events) jobs

-- these jobs, which come next, were sent, in order
pub record Sends (board : BoardView) (before after : List SentJob) (jobs : List TextAt) : Type 0 where
  pub given : WhateverCame board (λ opening events. AreNextJobs opening events jobs)
  pub sent : after ≡ before ++ map noted jobs

-- So many times a job was asked for, each time with room for one more. These jobs were sent: one each time, until there was no room for more; or one each
-- time but the last, when no text was wanted.
pub record HandsOut (old new : BoardView) (before after : List SentJob) : Type 0 where
  pub asked : ℕ
  pub records : Records old new (replicate asked NextJob)
  pub jobs : List TextAt
  pub sends : Sends old before after jobs
  pub room : (k : ℕ) → k < asked → HasRoom (before ++ map noted (take k jobs))
  pub stops : ((asked ≡ length jobs) × (¬ HasRoom after)) ⊎ ((asked ≡ length jobs + 1) × WhateverCame old (λ opening events. IsFirstWanted opening (replicate (length jobs) NextJob ++ events) None))

-- what became of a job, as what is done to the board
abbrev pub event_of : Done → Event
event_of (job.Made piece) = Offer piece.path piece.stamp piece.text
event_of (job.Failed path stamp) = Fail (string_bytes path) stamp

-- the job failed, and its text is the one that counts
abbrev pub IsCountedFailure : ℕ → List Event → Done → Type 0
IsCountedFailure opening events (job.Made piece) = ⊥
IsCountedFailure opening events (job.Failed path stamp) = failure_on stamp (stands_at opening events (string_bytes path)) ≡ Taken

-- A result was received: the job that is no longer out is the first with the stamp of what was brought, or the first of all if none has it. What was
-- brought isn't a failure that counts.
pub record BringsResult (old new : BoardView) (before after : List SentJob) : Type 0 where
  pub done : Done
  pub received : after ≡ without_job (stamp_of done) before
  pub records : Records old new (event_of done ∷ [])
  pub uncounted : WhateverCame old (λ opening events. ¬ (IsCountedFailure opening events done))

-- the same, but what was brought is a failure that counts
pub record BringsFailure (old new : BoardView) (before after : List SentJob) : Type 0 where
  pub done : Done
  pub received : after ≡ without_job (stamp_of done) before
  pub records : Records old new (event_of done ∷ [])
  pub counted : WhateverCame old (λ opening events. IsCountedFailure opening events done)
