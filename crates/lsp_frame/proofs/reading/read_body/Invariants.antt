use Rattle.std.proofs.Common.{◌≤◌, ◌-◌, vec_len}
use Rattle.std.specs.Io.KnownBytes.{Consumes}
use Rattle.lsp_frame.specs.Counts.{NoneFell, NoError}
use Rattle.lsp_frame.proofs.reading.read_body.Given as goal

-- what was taken is the body so far
abbrev pub invariant-reads : goal.invariant-reads
invariant-reads g l =
    let left = g.S.ByteSource.left in
    let counts = g.S.ByteSource.counts in
    record {
      none_fell : NoneFell (counts l.initial.source) (counts l.source);
      no_error : NoError (counts l.initial.source) (counts l.source);
      within : vec_len l.body ≤ l.length;
      consumed : Consumes (left l.initial.source) (left l.source) l.body.items;
    }

abbrev pub decreases-reads : goal.decreases-reads
decreases-reads g l = l.length - vec_len l.body
