use Rattle.std.proofs.Common.{◌≡◌, length}
use Rattle.std.specs.Io.KnownBytes.{Consumes}
use Rattle.lsp_frame.specs.Counts.{NoneFell, NoError}
use Rattle.lsp_frame.proofs.Headers.{NoneWhole}
use Rattle.lsp_frame.proofs.reading.read_header.Given as goal

-- what was taken is the header so far, and no front of it is closed
abbrev pub invariant-loop-taken : goal.invariant-loop-taken
invariant-loop-taken g l =
    let left = g.S.ByteSource.left in
    let counts = g.S.ByteSource.counts in
    record {
      none_fell : NoneFell (counts l.initial.source) (counts l.source);
      no_error : NoError (counts l.initial.source) (counts l.source);
      len : length l.header.items ≡ l._taken;
      consumed : Consumes (left l.initial.source) (left l.source) l.header.items;
      none_whole : NoneWhole l.header.items l._taken;
    }
