use Rattle.std.proofs.Common.{◌≤◌}
use Rattle.std.specs.Io.KnownBytes.{Keeps}
use Rattle.lsp_frame.specs.Counts.{NoneFell, NoError, RoseBy}
use Rattle.lsp_frame.proofs.reading.read_some.Given as goal

-- only interruptions so far
abbrev pub invariant-loop-turn : goal.invariant-loop-turn
invariant-loop-turn g l =
    let left = g.S.ByteSource.left in
    let counts = g.S.ByteSource.counts in
    record {
      kept : Keeps (left l.initial.source) (left l.source);
      none_fell : NoneFell (counts l.initial.source) (counts l.source);
      no_error : NoError (counts l.initial.source) (counts l.source);
      interrupted : RoseBy l._turn (counts l.initial.source).interruptions (counts l.source).interruptions;
      in_a_row : l._turn ≤ (counts l.source).in_a_row;
    }
