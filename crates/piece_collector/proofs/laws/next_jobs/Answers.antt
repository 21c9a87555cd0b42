use Rattle.piece_collector.proofs.Histories.{given_is_first}
use Rattle.piece_collector.proofs.Next.{first_is_given}
use Rattle.piece_collector.proofs.laws.next_jobs.Goals as goal

pub returns : goal.returns
returns c = λ o es p. (first_is_given o es p, given_is_first o es p)
