use Rattle.doc_text.proofs.Betweens.{lead_back}
use Rattle.doc_text.proofs.laws.positions_lead_back.Goals as goal

pub returns : goal.returns
returns c = lead_back
