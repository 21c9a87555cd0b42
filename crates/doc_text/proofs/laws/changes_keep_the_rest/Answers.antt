use Rattle.doc_text.proofs.Changes.{keep_the_rest}
use Rattle.doc_text.proofs.laws.changes_keep_the_rest.Goals as goal

pub returns : goal.returns
returns c = keep_the_rest
