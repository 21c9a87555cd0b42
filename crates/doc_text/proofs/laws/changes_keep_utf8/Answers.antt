use Rattle.doc_text.proofs.Changes.{keep_utf8}
use Rattle.doc_text.proofs.laws.changes_keep_utf8.Goals as goal

pub returns : goal.returns
returns c = keep_utf8
