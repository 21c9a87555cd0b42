use Rattle.std.proofs.Common.{◌+◌, ◌-◌, ◌∙◌, sym, arith, refl}
use Rattle.doc_text.proofs.LineOffsets.{block_on, byte_ends, byte_goes, bytes_out, lines_out}
use Rattle.doc_text.proofs.scan.line_start.Goals as goal
use Rattle.doc_text.proofs.scan.line_start.Goals.{then-ends_line, else-ends_line}

pub loop-at-preserved : goal.loop-at-preserved
loop-at-preserved c = record {
  in_range = omega arith;
  onward = block_on c.args.text.now _ _ c.loop-at.at c.loop-at.left c.line_end_count-ends.result ((c.loop-at.at + 64) + 1 - c.loop-at.at) (omega arith) (omega arith) refl c.line_end_count-ends.ensures.value c.if-left-ends.false c.loop-at.invariant.onward;
}

pub loop-left-preserved : goal.loop-left-preserved
loop-left-preserved c = record {
  in_range = omega arith;
  onward = elim c.if-ends_line.branch [
    | then-ends_line w ↦ rw (w.left-is) (byte_ends _ _ _ _ c.if-at-text.true c.loop-left-test.true c.loop-left.invariant.onward (sym c.ends_line.ensures ∙ w.if-ends_line.true))
    | else-ends_line w ↦ rw (w.left-is) (byte_goes _ _ _ _ c.if-at-text.true c.loop-left-test.true c.loop-left.invariant.onward (sym c.ends_line.ensures ∙ w.if-ends_line.false))
  ];
}

pub returns-else-at-text-clause-value : goal.returns-else-at-text-clause-value
returns-else-at-text-clause-value c = bytes_out _ _ _ _ c.if-at-text.false c.loop-left.invariant.onward

pub returns-after-loop-left-clause-value : goal.returns-after-loop-left-clause-value
returns-after-loop-left-clause-value c = lines_out _ _ _ _ c.loop-left-test.false c.loop-left.invariant.onward
