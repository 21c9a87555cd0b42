use Rattle.doc_text.proofs.Betweens.{between_characters}
use Rattle.doc_text.proofs.laws.positions_between_characters.Goals as goal

pub returns : goal.returns
returns c = between_characters
