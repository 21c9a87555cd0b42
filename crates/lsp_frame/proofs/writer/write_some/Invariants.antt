use Rattle.std.proofs.Common.{◌≤◌}
use Rattle.std.specs.Io.KnownBytes.{Keeps}
use Rattle.lsp_frame.specs.Counts.{NoneFell, NoError, RoseBy}
use Rattle.lsp_frame.proofs.writer.write_some.Given as goal

-- only interruptions so far
abbrev pub invariant-loop-turn : goal.invariant-loop-turn
invariant-loop-turn g l =
    let written = g.K.ByteSink.written in
    let counts = g.K.ByteSink.counts in
    record {
      kept : Keeps (written l.initial.writer) (written l.writer);
      none_fell : NoneFell (counts l.initial.writer) (counts l.writer);
      no_error : NoError (counts l.initial.writer) (counts l.writer);
      interrupted : RoseBy l._turn (counts l.initial.writer).interruptions (counts l.writer).interruptions;
      in_a_row : l._turn ≤ (counts l.writer).in_a_row;
    }
