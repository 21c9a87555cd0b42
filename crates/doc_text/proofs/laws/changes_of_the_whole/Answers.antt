use Rattle.doc_text.proofs.Changes.{of_the_whole}
use Rattle.doc_text.proofs.laws.changes_of_the_whole.Goals as goal

pub returns : goal.returns
returns c = of_the_whole
