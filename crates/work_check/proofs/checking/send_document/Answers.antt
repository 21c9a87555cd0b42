use Rattle.std.proofs.Common.{[], ◌++◌}
use Rattle.std.proofs.KnownBytes.{Appends-nil}
use Rattle.check_lines.specs.Lines.{opening, closing, cut, is_array, document}
use Rattle.work_config.proofs.SendingLemmas.{front-behind}
use Rattle.work_check.specs.Steps.{all_lines}
use Rattle.work_check.proofs.LinesLemmas.{all-last, document-is, lines-sent, on_err, part-last}
use Rattle.work_check.proofs.checking.send_document.Goals as goal

pub returns-in_err-send-clause-err : goal.returns-in_err-send-clause-err
returns-in_err-send-clause-err g c =
    let written = g.K.ByteSink.written in
    let l = c.args.listed.now in
    let format = l.how.format in
    let rest = cut (is_array format) (all_lines l) ++ closing format in
    on_err c.from_residual.result
    (front-behind (written c.args.writer.now) (written c.args.writer.now) (written c.send.new.writer) [] (opening format) rest (document format (all_lines l)) (document-is format (all_lines l))
    (Appends-nil (written c.args.writer.now)) (rw (c.as_bytes.ensures.value, c.opening.ensures) at c.in_err-send.ensures.err))

pub returns-in_err-send_all-clause-err : goal.returns-in_err-send_all-clause-err
returns-in_err-send_all-clause-err g c =
    let written = g.K.ByteSink.written in
    let l = c.args.listed.now in
    let format = l.how.format in
    on_err c.from_residual-in_err-send_all.result
    (front-behind (written c.args.writer.now) (written c.send.new.writer) (written c.send_all.new.writer) (opening format) (cut (is_array format) (all_lines l)) (closing format)
    (document format (all_lines l)) (document-is format (all_lines l)) (rw (c.as_bytes.ensures.value, c.opening.ensures) at c.in_ok-send.ensures.ok) c.in_err-send_all.ensures.err)

pub returns-clause-err : goal.returns-clause-err
returns-clause-err g c =
    let written = g.K.ByteSink.written in
    let l = c.args.listed.now in
    let format = l.how.format in
    part-last c.send-2.result (written c.args.writer.now) (written c.send_all.new.writer) (written c.send-2.new.writer) (document format (all_lines l)) (closing format)
    (lines-sent format (all_lines l) (written c.args.writer.now) (written c.send.new.writer) (written c.send_all.new.writer)
    (rw (c.as_bytes.ensures.value, c.opening.ensures) at c.in_ok-send.ensures.ok) c.in_ok-send_all.ensures.ok) (rw (c.as_bytes-2.ensures.value, c.closing.ensures) at c.send-2.ensures.err)

pub returns-clause-ok : goal.returns-clause-ok
returns-clause-ok g c =
    let written = g.K.ByteSink.written in
    let l = c.args.listed.now in
    let format = l.how.format in
    all-last c.send-2.result (written c.args.writer.now) (written c.send_all.new.writer) (written c.send-2.new.writer) (document format (all_lines l)) (closing format)
    (lines-sent format (all_lines l) (written c.args.writer.now) (written c.send.new.writer) (written c.send_all.new.writer)
    (rw (c.as_bytes.ensures.value, c.opening.ensures) at c.in_ok-send.ensures.ok) c.in_ok-send_all.ensures.ok) (rw (c.as_bytes-2.ensures.value, c.closing.ensures) at c.send-2.ensures.ok)
