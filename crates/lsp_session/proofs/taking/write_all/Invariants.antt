use Rattle.std.proofs.Common.{take}
use Rattle.std.specs.Io.KnownBytes.{Appends}
use Rattle.lsp_frame.specs.Counts.{NoneFell, NoError}
use Rattle.lsp_session.specs.Stream.{frames_of}
use Rattle.lsp_session.proofs.taking.write_all.Given as goal

-- the frames of the replies so far went out
abbrev pub invariant-loop-reply : goal.invariant-loop-reply
invariant-loop-reply g l =
    let written = g.K.ByteSink.written in
    let counts = g.K.ByteSink.counts in
    record {
      none_fell : NoneFell (counts l.initial.writer) (counts l.writer);
      no_error : NoError (counts l.initial.writer) (counts l.writer);
      appended : Appends (written l.initial.writer) (written l.writer) (frames_of (take l.reply-index l.replies));
    }
