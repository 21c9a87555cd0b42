use Rattle.std.proofs.Common.{◌≡◌, flat_map}
use Rattle.std.specs.Io.KnownBytes.{Appends}
use Rattle.lsp_frame.specs.Counts.{NoneFell, NoError}
use Rattle.check_lines.specs.Lines.{cut}
use Rattle.work_check.specs.Steps.{still_first}
use Rattle.work_check.proofs.checking.send_shares.Given as goal

-- the lines of the shares that came went out
abbrev pub invariant-shares : goal.invariant-shares
invariant-shares g l =
    let written = g.K.ByteSink.written in
    let counts = g.K.ByteSink.counts in
    record {
      none_fell : NoneFell (counts l.initial.writer) (counts l.writer);
      no_error : NoError (counts l.initial.writer) (counts l.writer);
      first : l.first ≡ still_first l.initial.first (flat_map (λ share. share.lines.items) l.yielded);
      sent : Appends (written l.initial.writer) (written l.writer) (cut l.initial.first (flat_map (λ share. share.lines.items) l.yielded));
    }
