use Rattle.doc_text.proofs.Backs.{positions_past}
use Rattle.doc_text.proofs.laws.positions_past_the_end.Goals as goal

pub returns : goal.returns
returns c = positions_past
