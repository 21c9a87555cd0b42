use Rattle.collector_laws.proofs.Rounds.{rounds_are, rounds_hold, rounds_texts, rounds_none_out, rounds_end, rounds_complete}
use Rattle.collector_laws.proofs.work_laws.rounds_of_work.Goals as goal

pub returns-clause-jobs : goal.returns-clause-jobs
returns-clause-jobs c = rounds_are c.next_jobs.ensures

pub returns-clause-held : goal.returns-clause-held
returns-clause-held c = rounds_hold c.next_jobs.ensures c.jobs_and_pieces.ensures.piece c.jobs_and_pieces.ensures.job c.jobs_and_pieces.ensures.no_job

pub returns-clause-texts : goal.returns-clause-texts
returns-clause-texts c = rounds_texts c.next_jobs.ensures c.texts_after_events.ensures.stamps

pub returns-clause-none_out : goal.returns-clause-none_out
returns-clause-none_out c = rounds_none_out c.next_jobs.ensures c.jobs_and_pieces.ensures.piece c.jobs_and_pieces.ensures.job c.jobs_and_pieces.ensures.no_job

pub returns-clause-end : goal.returns-clause-end
returns-clause-end c = rounds_end c.next_jobs.ensures c.jobs_and_pieces.ensures.piece c.jobs_and_pieces.ensures.job c.jobs_and_pieces.ensures.no_job

pub returns-clause-complete : goal.returns-clause-complete
returns-clause-complete c = rounds_complete c.next_jobs.ensures c.jobs_and_pieces.ensures.piece c.jobs_and_pieces.ensures.job c.jobs_and_pieces.ensures.no_job c.jobs_and_pieces.ensures.complete
