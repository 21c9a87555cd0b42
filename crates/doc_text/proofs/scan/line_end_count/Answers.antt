use Rattle.std.proofs.Common.{refl, arith}
use Rattle.doc_text.specs.Bytes.{line_end_count}
use Rattle.doc_text.proofs.LineOffsets.{line_end_count-next, few_more}
use Rattle.doc_text.proofs.scan.line_end_count.Goals as goal

pub loop-at-init : goal.loop-at-init
unfolding line_end_count
loop-at-init c = record { value = refl; few = omega arith }

pub loop-at-preserved : goal.loop-at-preserved
loop-at-preserved c = record {
  value = line_end_count-next c.loop-at.ends c.loop-at.at c.args.block.now (omega arith) c.loop-at.invariant.value;
  few = few_more c.loop-at.ends c.loop-at.at _ c.loop-at.invariant.few;
}
