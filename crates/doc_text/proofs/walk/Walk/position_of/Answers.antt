use Rattle.doc_text.proofs.Walks.{cursor_start}
use Rattle.doc_text.proofs.walk.Walk.position_of.Goals as goal
use Rattle.doc_text.proofs.walk.Walk.position_of.Goals.{then-self-offset, else-self-offset}

pub advance-self-inside-requires-clause-cursor : goal.advance-self-inside-requires-clause-cursor
advance-self-inside-requires-clause-cursor c =
    elim c.if-self-offset.branch [
      | then-self-offset w ↦ rw (c.as_bytes.ensures.value, w.from-is) c.self.invariant
      | else-self-offset w ↦ rw (w.from-is) (cursor_start _ _ w.front-from.result c.as_bytes.ensures.utf8 w.front-from.ensures.at w.front-from.ensures.line w.front-from.ensures.character)
    ]
