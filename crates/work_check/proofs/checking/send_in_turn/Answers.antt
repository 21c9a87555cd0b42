use Rattle.std.proofs.Common.{◌≡◌, ◌<◌, ◌≤◌, ◌∙◌, arith, length}
use Rattle.lsp_frame.proofs.CountsLemmas.{NoneFell-trans}
use Rattle.check_lines.specs.Lines.{written}
use Rattle.work_check.specs.Steps.{lines_at, sent_lines}
use Rattle.work_check.proofs.LinesLemmas.{lines-at, on_err, part-last, sent-all, sent-more, sent-part}
use Rattle.work_check.proofs.checking.send_in_turn.Goals as goal

pub loop-number-preserved : goal.loop-number-preserved
loop-number-preserved g c =
    let sent_to = g.K.ByteSink.written in
    let at = c.loop-number in
    let l = c.args.listed.now in
    let there : at.number < length l.files = rw c.file_count-number-end.ensures at c.loop-number-test.true in
    let of : written c.file-file.result c.diagnostics.result.now ≡ lines_at l at.number = lines-at l at.number c.file-file.result c.diagnostics.result.now c.file-file.ensures c.diagnostics.ensures in
    record {
      none_fell = NoneFell-trans at.invariant.none_fell c.add_lines.ensures.counts;
      no_error = c.in_ok-add_lines.ensures.calm ∙ at.invariant.no_error;
      sent = sent-more l at.number (sent_to c.args.writer.now) (sent_to at.writer) (sent_to c.add_lines.new.writer) (sent_lines l) at.room.bytes.items c.add_lines.new.room.bytes.items
          (written c.file-file.result c.diagnostics.result.now) at.room.first c.add_lines.new.room.first there of c.in_ok-add_lines.ensures.first at.invariant.sent c.in_ok-add_lines.ensures.ok;
    }

pub returns-in_err-add_lines-clause-err : goal.returns-in_err-add_lines-clause-err
returns-in_err-add_lines-clause-err g c =
    let sent_to = g.K.ByteSink.written in
    let at = c.loop-number in
    let l = c.args.listed.now in
    let there : at.number < length l.files = rw c.file_count-number-end.ensures at c.loop-number-test.true in
    let of : written c.file-file.result c.diagnostics.result.now ≡ lines_at l at.number = lines-at l at.number c.file-file.result c.diagnostics.result.now c.file-file.ensures c.diagnostics.ensures in
    on_err c.from_residual.result
    (sent-part l at.number (sent_to c.args.writer.now) (sent_to at.writer) (sent_to c.add_lines.new.writer) (sent_lines l) at.room.bytes.items
    (written c.file-file.result c.diagnostics.result.now) at.room.first there of at.invariant.sent c.in_err-add_lines.ensures.err)

pub returns-clause-err : goal.returns-clause-err
returns-clause-err g c =
    let sent_to = g.K.ByteSink.written in
    let at = c.loop-number in
    let l = c.args.listed.now in
    let none : length l.files ≤ at.number = omega (arith, c.loop-number-test.false, c.file_count-number-end.ensures) in
    part-last c.flush.result (sent_to c.args.writer.now) (sent_to at.writer) (sent_to c.flush.new.writer) (sent_lines l) at.room.bytes.items
    (sent-all l at.number (sent_to c.args.writer.now) (sent_to at.writer) (sent_lines l) at.room.bytes.items at.room.first none at.invariant.sent) c.flush.ensures.err
