use Rattle.doc_text.proofs.Trips.{positions_come_back}
use Rattle.doc_text.proofs.laws.round_trips.Goals as goal

pub returns : goal.returns
returns c = positions_come_back
