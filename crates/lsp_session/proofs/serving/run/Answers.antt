use Rattle.std.proofs.Common.{Err, ap}
use Rattle.lsp_frame.specs.FrameReader.{source_of}
use Rattle.lsp_core.specs.View.{core_state}
use Rattle.lsp_core.proofs.CoreLemmas.{knows-none}
use Rattle.lsp_core.proofs.FaultLemmas.{of_served, of_workers, not_of_workers}
use Rattle.lsp_session.proofs.ServingLemmas.{of_core, fails_at_start, core_caused, no_calls}
use Rattle.lsp_session.proofs.serving.run.Goals as goal

pub returns-in-Err-clause-served : goal.returns-in-Err-clause-served
returns-in-Err-clause-served g c = rw c.from.ensures (fails_at_start c.args.start.config _ _ _ (of_core c.in-Err.fault) (λ is. c.in-Err.ensures.exhausted (ap Err (of_served c.in-Err.fault is))))

pub returns-in-Err-clause-reads : goal.returns-in-Err-clause-reads
returns-in-Err-clause-reads g c = no_calls _ _ _

pub returns-in-Err-clause-writes : goal.returns-in-Err-clause-writes
returns-in-Err-clause-writes g c = no_calls _ _ _

pub returns-in-Err-clause-cause : goal.returns-in-Err-clause-cause
returns-in-Err-clause-cause g c =
    rw c.from.ensures (core_caused (g.S.ByteSource.counts (source_of c.args.reader.now)) (g.S.ByteSource.counts (source_of c.args.reader.now)) (g.K.ByteSink.counts c.args.writer.now) (g.K.ByteSink.counts c.args.writer.now) _ (of_core c.in-Err.fault))

pub returns-in-Err-start_pool-clause-served : goal.returns-in-Err-start_pool-clause-served
returns-in-Err-start_pool-clause-served g c =
    let fault = c.in-Err-start_pool.fault in
    let of = c.in-Err-start_pool.ensures.fault in
    fails_at_start c.args.start.config _ _ fault (of_workers fault of) (λ is. absurd (not_of_workers fault of is))

pub returns-in-Err-start_pool-clause-reads : goal.returns-in-Err-start_pool-clause-reads
returns-in-Err-start_pool-clause-reads g c = no_calls _ _ _

pub returns-in-Err-start_pool-clause-writes : goal.returns-in-Err-start_pool-clause-writes
returns-in-Err-start_pool-clause-writes g c = no_calls _ _ _

pub returns-in-Err-start_pool-clause-cause : goal.returns-in-Err-start_pool-clause-cause
returns-in-Err-start_pool-clause-cause g c =
    core_caused (g.S.ByteSource.counts (source_of c.args.reader.now)) (g.S.ByteSource.counts (source_of c.args.reader.now)) (g.K.ByteSink.counts c.args.writer.now) (g.K.ByteSink.counts c.args.writer.now) c.in-Err-start_pool.fault (of_workers c.in-Err-start_pool.fault c.in-Err-start_pool.ensures.fault)

pub returns-clause-served : goal.returns-clause-served
returns-clause-served g c = c.serve_messages-ended.ensures.served c.args.start.config (knows-none c.args.start.config (core_state c.in-Ok.core) c.in-Ok.ensures.is_after) c.in-Ok.ensures.open
