use Rattle.std.proofs.Common.{◌≡◌, false, [], None}
use Rattle.lsp_frame.specs.Counts.{NoneFell, NoError}
use Rattle.lsp_frame.specs.FrameReader.{source_of, IsOpen}
use Rattle.work_config.specs.Configuration.{Configuration}
use Rattle.lsp_session.specs.Serving.{Serving}
use Rattle.lsp_core.specs.Steps.{Knows}
use Rattle.lsp_core.specs.Session.{is_exited}
use Rattle.lsp_core.specs.View.{core_state, last_fault}
use Rattle.lsp_session.proofs.serving.serve_messages.Given as goal

-- the stream is served so far, without an error of a device, and goes on
abbrev pub invariant-loop-turn : goal.invariant-loop-turn
invariant-loop-turn g l =
    let left = g.S.ByteSource.left in
    let written = g.K.ByteSink.written in
    let of_source = g.S.ByteSource.counts in
    let of_sink = g.K.ByteSink.counts in
    record {
      goes_on : IsOpen l.reader;
      so_far : (config : Configuration) → Knows config (core_state l.fn.core) [] → last_fault l.fn.core ≡ None
          → Serving config (left (source_of l.fn.reader)) (left (source_of l.reader)) (core_state l.core) (written l.fn.writer) (written l.writer) × (is_exited (core_state l.core).state.phase ≡ false);
      core_open : last_fault l.fn.core ≡ None → last_fault l.core ≡ None;
      reads : NoneFell (of_source (source_of l.fn.reader)) (of_source (source_of l.reader));
      reads_calm : NoError (of_source (source_of l.fn.reader)) (of_source (source_of l.reader));
      writes : NoneFell (of_sink l.fn.writer) (of_sink l.writer);
      writes_calm : NoError (of_sink l.fn.writer) (of_sink l.writer);
    }
