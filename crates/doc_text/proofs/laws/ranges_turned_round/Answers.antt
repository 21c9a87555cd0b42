use Rattle.doc_text.proofs.Changes.{turned_round}
use Rattle.doc_text.proofs.laws.ranges_turned_round.Goals as goal

pub returns : goal.returns
returns c = turned_round
