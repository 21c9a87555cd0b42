use Rattle.std.proofs.KnownBytes.{Appends-trans}
use Rattle.lsp_frame.specs.Writing.{frame_of}
use Rattle.lsp_frame.proofs.CountsLemmas.{NoneFell-trans}
use Rattle.lsp_session.specs.Stream.{frames_of}
use Rattle.std.proofs.Common.{◌∙◌, take}
use Rattle.lsp_session.proofs.ServingLemmas.{frames-sent, frames-more}
use Rattle.lsp_session.proofs.taking.write_all.Goals as goal

pub returns-in-Err-clause-err : goal.returns-in-Err-clause-err
returns-in-Err-clause-err g c =
    let written = g.K.ByteSink.written in
    let at = c.loop-reply in
    let sent = rw c.as_bytes.ensures at c.in-Err.ensures.err in
    frames-sent (written c.args.writer.now) (written at.writer) (written c.write_frame.new.writer) c.args.replies.now at.reply-index c.reply-item.result c.in-Err.field-0.written c.loop-reply-test.true c.reply-item.is at.invariant.appended sent.0 sent.1

pub loop-reply-preserved : goal.loop-reply-preserved
loop-reply-preserved g c =
    let written = g.K.ByteSink.written in
    let at = c.loop-reply in
    let replies = c.args.replies.now in
    let sent = rw c.as_bytes.ensures at c.in-Ok.ensures.ok in
    record {
      none_fell = NoneFell-trans at.invariant.none_fell c.write_frame.ensures.counts;
      no_error = c.in-Ok.ensures.calm ∙ at.invariant.no_error;
      appended = rw (frames-more replies at.reply-index c.reply-item.result c.loop-reply-test.true c.reply-item.is) (Appends-trans (written c.args.writer.now) (written at.writer) (written c.write_frame.new.writer) (frames_of (take at.reply-index replies)) (frame_of c.reply-item.result) at.invariant.appended sent);
    }
