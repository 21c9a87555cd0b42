use Rattle.doc_text.proofs.Walks.{cursor_start}
use Rattle.doc_text.proofs.cursor.position_of.Goals as goal

pub advance-requires-clause-cursor : goal.advance-requires-clause-cursor
advance-requires-clause-cursor c = cursor_start _ _ c.front.result c.as_bytes.ensures.utf8 c.front.ensures.at c.front.ensures.line c.front.ensures.character
