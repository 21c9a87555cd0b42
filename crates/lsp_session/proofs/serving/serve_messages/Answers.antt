use Rattle.std.proofs.Common.{Ok, refl, ap, ◌∙◌}
use Rattle.lsp_frame.specs.FrameReader.{source_of}
use Rattle.lsp_frame.proofs.CountsLemmas.{NoneFell-refl, NoneFell-trans}
use Rattle.lsp_core.specs.Session.{is_exited}
use Rattle.lsp_core.specs.View.{core_state}
use Rattle.lsp_core.proofs.CoreLemmas.{session-none, knows-state}
use Rattle.lsp_session.proofs.ServingLemmas.{serving-start, more_calls, good_calls, bad_calls, more_cause}
use Rattle.lsp_session.proofs.serving.serve_messages.Goals as goal

pub loop-turn-init : goal.loop-turn-init
loop-turn-init g c =
    let core = core_state c.args.core.now in
    record {
      goes_on = c.requires;
      so_far = λ config knows free.
          (serving-start config (g.S.ByteSource.left (source_of c.args.reader.now)) (g.K.ByteSink.written c.args.writer.now) core knows, ap (λ s. is_exited s.phase) (knows-state config core _ knows ∙ ap (λ r. r.state) (session-none config)));
      core_open = λ free. free;
      reads = NoneFell-refl (g.S.ByteSource.counts (source_of c.args.reader.now));
      reads_calm = refl;
      writes = NoneFell-refl (g.K.ByteSink.counts c.args.writer.now);
      writes_calm = refl;
    }

pub loop-turn-preserved : goal.loop-turn-preserved
loop-turn-preserved g c =
    let before = c.loop-turn.invariant in
    let turn = c.in-Ok-None.ensures in
    record {
      goes_on = turn.goes_on (ap Ok c.in-Ok-None.field-0-is);
      so_far = λ config knows free.
          let so_far = before.so_far config knows free in
          let comes = rw c.in-Ok-None.field-0-is at (turn.comes config (g.S.ByteSource.left (source_of c.args.reader.now)) (g.K.ByteSink.written c.args.writer.now) so_far.0 so_far.1 (before.core_open free)) in
          (comes.0, comes.1);
      core_open = λ free. turn.open (before.core_open free);
      reads = NoneFell-trans before.reads turn.reads.counts;
      reads_calm = turn.reads.calm ∙ before.reads_calm;
      writes = NoneFell-trans before.writes turn.writes.counts;
      writes_calm = turn.writes.calm ∙ before.writes_calm;
    }

pub returns-in-Ok-Some-clause-served : goal.returns-in-Ok-Some-clause-served
returns-in-Ok-Some-clause-served g c = λ config knows free.
    let so_far = c.loop-turn.invariant.so_far config knows free in
    rw c.in-Ok-Some.field-0-is at (c.in-Ok-Some.ensures.comes config (g.S.ByteSource.left (source_of c.args.reader.now)) (g.K.ByteSink.written c.args.writer.now) so_far.0 so_far.1 (c.loop-turn.invariant.core_open free))

pub returns-in-Ok-Some-clause-reads : goal.returns-in-Ok-Some-clause-reads
returns-in-Ok-Some-clause-reads g c = good_calls _ _ _ _ _ (more_calls _ _ _ _ _ c.loop-turn.invariant.reads c.loop-turn.invariant.reads_calm c.in-Ok-Some.ensures.reads)

pub returns-in-Ok-Some-clause-writes : goal.returns-in-Ok-Some-clause-writes
returns-in-Ok-Some-clause-writes g c = good_calls _ _ _ _ _ (more_calls _ _ _ _ _ c.loop-turn.invariant.writes c.loop-turn.invariant.writes_calm c.in-Ok-Some.ensures.writes)

pub returns-in-Err-clause-served : goal.returns-in-Err-clause-served
returns-in-Err-clause-served g c = λ config knows free.
    let so_far = c.loop-turn.invariant.so_far config knows free in
    c.in-Err.ensures.comes config (g.S.ByteSource.left (source_of c.args.reader.now)) (g.K.ByteSink.written c.args.writer.now) so_far.0 so_far.1 (c.loop-turn.invariant.core_open free)

pub returns-in-Err-clause-reads : goal.returns-in-Err-clause-reads
returns-in-Err-clause-reads g c = bad_calls _ _ _ _ (more_calls _ _ _ _ _ c.loop-turn.invariant.reads c.loop-turn.invariant.reads_calm c.in-Err.ensures.reads)

pub returns-in-Err-clause-writes : goal.returns-in-Err-clause-writes
returns-in-Err-clause-writes g c = bad_calls _ _ _ _ (more_calls _ _ _ _ _ c.loop-turn.invariant.writes c.loop-turn.invariant.writes_calm c.in-Err.ensures.writes)

pub returns-in-Err-clause-cause : goal.returns-in-Err-clause-cause
returns-in-Err-clause-cause g c = more_cause _ _ _ _ _ _ c.in-Err.fault c.loop-turn.invariant.reads c.loop-turn.invariant.writes c.in-Err.ensures.cause
