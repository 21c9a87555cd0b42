use Rattle.std.proofs.Common.{◌∙◌, ◌++◌, refl}
use Rattle.lsp_frame.proofs.CountsLemmas.{NoneFell-refl, NoneFell-trans}
use Rattle.check_lines.specs.Lines.{cut, written}
use Rattle.work_check.specs.Steps.{still_first}
use Rattle.work_check.proofs.LinesLemmas.{cut-next, still-next, written-cut, on_err, part-next, sent-next, sent-none}
use Rattle.work_check.proofs.checking.add_lines.Goals as goal

pub parts-init : goal.parts-init
parts-init g c =
    record {
      none_fell = NoneFell-refl (g.K.ByteSink.counts c.args.writer.now);
      no_error = refl;
      same = refl;
      first = refl;
      sent = sent-none (g.K.ByteSink.written c.args.writer.now) (c.args.room.now.bytes.items ++ cut c.args.room.now.first (written c.args.file.now c.args.diags.now));
    }

pub parts-preserved : goal.parts-preserved
parts-preserved g c =
    let sent_to = g.K.ByteSink.written in
    let now = c.parts.invariant in
    let lines = written c.args.file.now in
    let part = c.split_at.result.0.now in
    let more = c.split_at.result.1.now in
    let first = c.parts.room.first in
    let next = c.add_part.new.room.first in
    let joined = written-cut c.args.file.now c.parts.left.now part more c.split_at.ensures.by_index.0 in
    let after = rw now.same at c.in_ok-add_part.ensures.first in
    record {
      none_fell = NoneFell-trans now.none_fell c.add_part.ensures.counts;
      no_error = c.in_ok-add_part.ensures.calm ∙ now.no_error;
      same = c.add_part.ensures.same ∙ now.same;
      first = now.first ∙ still-next first next (lines part) (lines c.parts.left.now) (lines more) joined after;
      sent = sent-next (sent_to c.args.writer.now) (sent_to c.parts.writer) (sent_to c.add_part.new.writer) (c.args.room.now.bytes.items ++ cut c.args.room.now.first (lines c.args.diags.now))
          c.parts.room.bytes.items c.add_part.new.room.bytes.items (cut first (lines part)) (cut first (lines c.parts.left.now)) (cut next (lines more))
          (cut-next first next (lines part) (lines c.parts.left.now) (lines more) joined after) now.sent (rw now.same at c.in_ok-add_part.ensures.ok);
    }

pub returns-in_err-add_part-clause-err : goal.returns-in_err-add_part-clause-err
returns-in_err-add_part-clause-err g c =
    let sent_to = g.K.ByteSink.written in
    let lines = written c.args.file.now in
    let part = c.split_at.result.0.now in
    let more = c.split_at.result.1.now in
    let first = c.parts.room.first in
    on_err c.from_residual.result
    (part-next (sent_to c.args.writer.now) (sent_to c.parts.writer) (sent_to c.add_part.new.writer) (c.args.room.now.bytes.items ++ cut c.args.room.now.first (lines c.args.diags.now))
    c.parts.room.bytes.items (cut first (lines part)) (cut first (lines c.parts.left.now)) (cut (still_first first (lines part)) (lines more))
    (cut-next first (still_first first (lines part)) (lines part) (lines c.parts.left.now) (lines more) (written-cut c.args.file.now c.parts.left.now part more c.split_at.ensures.by_index.0) refl)
    c.parts.invariant.sent (rw c.parts.invariant.same at c.in_err-add_part.ensures.err))
