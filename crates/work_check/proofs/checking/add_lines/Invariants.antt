use Rattle.std.proofs.Common.{◌≡◌, ◌++◌, length}
use Rattle.lsp_frame.specs.Counts.{NoneFell, NoError}
use Rattle.check_lines.specs.Lines.{cut, written}
use Rattle.work_check.specs.Steps.{Sent, still_first}
use Rattle.work_check.proofs.checking.add_lines.Given as goal

-- what the room holds, and the lines of the diagnostics that are left, didn't go out yet
abbrev pub invariant-parts : goal.invariant-parts
invariant-parts g l =
    let sent_to = g.K.ByteSink.written in
    let counts = g.K.ByteSink.counts in
    let lines = written l.initial.file in
    record {
      none_fell : NoneFell (counts l.initial.writer) (counts l.writer);
      no_error : NoError (counts l.initial.writer) (counts l.writer);
      same : l.file ≡ l.initial.file;
      first : still_first l.initial.room.first (lines l.diags) ≡ still_first l.room.first (lines l.left);
      sent : Sent (sent_to l.initial.writer) (sent_to l.writer) (l.initial.room.bytes.items ++ cut l.initial.room.first (lines l.diags)) (l.room.bytes.items ++ cut l.room.first (lines l.left));
    }

abbrev pub decreases-parts : goal.decreases-parts
decreases-parts g l = length l.left
