use Rattle.std.proofs.Common.{◌++◌}
use Rattle.lsp_frame.specs.Counts.{NoneFell, NoError}
use Rattle.check_lines.specs.Lines.{cut}
use Rattle.work_check.specs.Steps.{Sent, left_from, sent_lines}
use Rattle.work_check.proofs.checking.send_in_turn.Given as goal

-- what the room holds, and the lines of the files that are left, didn't go out yet
abbrev pub invariant-loop-number : goal.invariant-loop-number
invariant-loop-number g l =
    let written = g.K.ByteSink.written in
    let counts = g.K.ByteSink.counts in
    record {
      none_fell : NoneFell (counts l.initial.writer) (counts l.writer);
      no_error : NoError (counts l.initial.writer) (counts l.writer);
      sent : Sent (written l.initial.writer) (written l.writer) (sent_lines l.listed) (l.room.bytes.items ++ cut l.room.first (left_from l.number l.listed));
    }
