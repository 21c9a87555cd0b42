use Rattle.std.proofs.Common.{◌∙◌, sym}
use Rattle.doc_text.proofs.Walks.{cursor_ends, cursor_return, cursor_plain, cursor_simple}
use Rattle.doc_text.proofs.cursor.step.Goals as goal
use Rattle.doc_text.proofs.cursor.step.Goals.{then-ends_line, else-ends_line+then-is_lf_or_cr, else-ends_line+else-is_lf_or_cr}

pub returns-clause-cursor : goal.returns-clause-cursor
returns-clause-cursor c =
    elim c.if-ends_line.branch [
      | then-ends_line w ↦ rw (w.position-is)
          (cursor_ends _ _ c.args.cursor _ c.requires.inside c.requires.cursor c.lead_len.ensures (sym c.ends_line.ensures ∙ w.if-ends_line.true))
      | else-ends_line+then-is_lf_or_cr w ↦ rw (w.position-is)
          (cursor_return _ _ c.args.cursor _ c.requires.inside c.requires.cursor c.lead_len.ensures (sym c.ends_line.ensures ∙ w.if-ends_line.false) (sym w.is_lf_or_cr.ensures ∙ w.if-is_lf_or_cr.true))
      | else-ends_line+else-is_lf_or_cr w ↦ rw (w.position-is)
          (cursor_plain _ _ c.args.cursor _ _ c.requires.inside c.requires.cursor c.lead_len.ensures w.lead_units.ensures (sym w.is_lf_or_cr.ensures ∙ w.if-is_lf_or_cr.false))
    ]

pub returns-then-is_simple-clause-cursor : goal.returns-then-is_simple-clause-cursor
returns-then-is_simple-clause-cursor c =
    cursor_simple _ _ c.args.cursor c.requires.inside c.requires.cursor (sym c.is_simple.ensures ∙ c.if-is_simple.true)
