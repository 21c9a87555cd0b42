use Rattle.std.proofs.Common.{◌≡◌, ◌-◌, ◌<◌, ◌++◌, ℕ, List, length, map, replicate, take}
use Rattle.piece_collector.specs.Board.{Records}
use Rattle.piece_collector.specs.Events.{NextJob}
use Rattle.piece_collector.specs.Views.{TextAt}
use Rattle.work_pool.specs.SentJobs.{HasRoom, noted}
use Rattle.work_dispatch.specs.Dispatch.{Sends}
use Rattle.work_dispatch.proofs.dispatch.hand_out_jobs.Given as goal

-- these jobs were asked for and sent, each while there was room, and neither a file nor how texts are read has changed
abbrev pub invariant-jobs : goal.invariant-jobs
invariant-jobs g l = record {
  files : (let now = l.workspace in now.files) ≡ (let old = l.initial.workspace in old.files);
  others : (let now = l.workspace in now.reads_others) ≡ (let old = l.initial.workspace in old.reads_others);
  jobs : (jobs : List TextAt) × Records (let old = l.initial.workspace in old.board) (let now = l.workspace in now.board) (replicate (length jobs) NextJob)
      × Sends (let old = l.initial.workspace in old.board) (let old = l.initial.pool in old.sent) (let now = l.pool in now.sent) jobs
      × ((k : ℕ) → k < length jobs → HasRoom ((let old = l.initial.pool in old.sent) ++ map noted (take k jobs)));
}

abbrev pub decreases-jobs : goal.decreases-jobs
decreases-jobs g l = 256 - l.pool.out
