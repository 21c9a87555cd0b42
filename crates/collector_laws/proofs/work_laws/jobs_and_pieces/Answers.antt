use Rattle.collector_laws.proofs.Jobs.{job_makes_out, only_jobs}
use Rattle.collector_laws.proofs.work_laws.jobs_and_pieces.Goals as goal

pub returns-clause-job : goal.returns-clause-job
returns-clause-job c = job_makes_out c.next_jobs.ensures

pub returns-clause-out : goal.returns-clause-out
returns-clause-out c = only_jobs
