use Rattle.doc_text.proofs.Walks.{cursor_before, cursor_out}
use Rattle.doc_text.proofs.cursor.advance.Goals as goal

pub returns-else-lead_len-offset-clause-position : goal.returns-else-lead_len-offset-clause-position
returns-else-lead_len-offset-clause-position c =
    cursor_before _ _ c.loop-cursor.cursor _ _ c.loop-cursor-test.true c.loop-cursor.invariant.cursor c.loop-cursor.invariant.before c.lead_len.ensures c.if-lead_len-offset.false

pub returns-after-loop-cursor-clause-position : goal.returns-after-loop-cursor-clause-position
returns-after-loop-cursor-clause-position c = cursor_out _ _ c.loop-cursor.cursor _ c.loop-cursor.invariant.cursor c.loop-cursor.invariant.before c.loop-cursor-test.false
