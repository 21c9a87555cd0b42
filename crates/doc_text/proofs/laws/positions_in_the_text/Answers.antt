use Rattle.doc_text.proofs.Places.{in_the_text}
use Rattle.doc_text.proofs.laws.positions_in_the_text.Goals as goal

pub returns : goal.returns
returns c = in_the_text
