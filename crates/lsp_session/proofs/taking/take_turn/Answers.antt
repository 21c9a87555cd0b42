use Rattle.lsp_frame.specs.FrameReader.{source_of}
use Rattle.lsp_core.specs.View.{core_state}
use Rattle.lsp_session.proofs.ServingLemmas.{serving-on, fails_between, core_caused, no_calls, of_core}
use Rattle.std.proofs.Common.{◌∙◌, ap, subst, sym}
use Rattle.work_config.specs.Fault.{IsOfCore, IsOfWorkers, serve_fault_of}
use Rattle.lsp_core.specs.Session.{is_exited}
use Rattle.lsp_session.proofs.taking.take_turn.Goals as goal

pub returns-in-Ok-clause-comes : goal.returns-in-Ok-clause-comes
returns-in-Ok-clause-comes g c = λ config a v so_far not_exited free.
    c.take_next.ensures.comes config a v (serving-on config a (g.S.ByteSource.left (source_of c.args.reader.now)) v (g.K.ByteSink.written c.args.writer.now) (core_state c.args.core.now) (core_state c.hand_out.new.self) so_far c.hand_out.ensures.state (c.in-Ok.ensures.works 0 config))
    (ap (λ s. is_exited s.phase) c.hand_out.ensures.state ∙ not_exited) c.in-Ok.ensures.open

pub returns-in-Err-clause-comes : goal.returns-in-Err-clause-comes
returns-in-Err-clause-comes g c = λ config a v so_far not_exited free.
    fails_between config a (g.S.ByteSource.left (source_of c.args.reader.now)) v (g.K.ByteSink.written c.args.writer.now) (core_state c.args.core.now) c.from.result so_far (subst IsOfWorkers (sym (c.from.ensures ∙ ap serve_fault_of (c.in-Err.ensures.memory free))) tt)

pub returns-in-Err-clause-reads : goal.returns-in-Err-clause-reads
returns-in-Err-clause-reads g c = no_calls _ _ _

pub returns-in-Err-clause-writes : goal.returns-in-Err-clause-writes
returns-in-Err-clause-writes g c = no_calls _ _ _

pub returns-in-Err-clause-cause : goal.returns-in-Err-clause-cause
returns-in-Err-clause-cause g c = core_caused (g.S.ByteSource.counts (source_of c.args.reader.now)) (g.S.ByteSource.counts (source_of c.args.reader.now)) (g.K.ByteSink.counts c.args.writer.now) (g.K.ByteSink.counts c.args.writer.now) c.from.result (subst IsOfCore (sym c.from.ensures) (of_core c.in-Err.fault))
