use Rattle.doc_text.proofs.Backs.{concat_lines}
use Rattle.doc_text.proofs.laws.lines_joined.Goals as goal

pub returns : goal.returns
returns c = concat_lines
