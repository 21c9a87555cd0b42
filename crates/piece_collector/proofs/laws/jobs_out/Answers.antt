use Rattle.piece_collector.proofs.Histories.{out_given, given_out}
use Rattle.piece_collector.proofs.laws.jobs_out.Goals as goal

pub returns : goal.returns
returns c = λ p s h. (out_given p s h, given_out p s h)
