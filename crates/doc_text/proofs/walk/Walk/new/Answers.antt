use Rattle.doc_text.proofs.Walks.{cursor_start}
use Rattle.doc_text.proofs.walk.Walk.new.Goals as goal

pub invariant_of-result : goal.invariant_of-result
invariant_of-result c = cursor_start _ _ c.front.result c.utf8.text c.front.ensures.at c.front.ensures.line c.front.ensures.character
