use Rattle.std.proofs.Common.{sym, ◌∙◌}
use Rattle.lsp_frame.specs.FrameReader.{source_of}
use Rattle.lsp_core.specs.View.{core_state}
use Rattle.lsp_session.proofs.ServingLemmas.{input_ends, fault_comes, fault_calls, fault_cause, message_caused, ends_by-not, calm_calls, no_calls}
use Rattle.lsp_session.proofs.taking.take_next.Goals as goal

pub returns-in-Ok-Body-clause-comes : goal.returns-in-Ok-Body-clause-comes
returns-in-Ok-Body-clause-comes g c = λ config a v so_far not_exited free.
    let left = g.S.ByteSource.left in
    let keeps = rw c.in-Ok-Body.field-0-is at c.in-Ok-Body.ensures.keeps in
    let frame = rw c.in-Ok-Body.field-0-is at (c.in-Ok-Body.ensures.frame c.requires) in
    let comes = rw c.as_slice.ensures.value at (c.take_message.ensures.comes config a (left (source_of c.args.reader.now)) (left (source_of c.read_frame.new.self)) v so_far not_exited) in
    rw keeps (comes frame free)

pub returns-in-Ok-Body-clause-reads : goal.returns-in-Ok-Body-clause-reads
returns-in-Ok-Body-clause-reads g c = calm_calls _ _ _ c.take_message.result c.read_frame.ensures.counts (c.in-Ok-Body.ensures.calm c.requires) c.read_frame.ensures.once

pub returns-in-Ok-Body-clause-cause : goal.returns-in-Ok-Body-clause-cause
returns-in-Ok-Body-clause-cause g c = message_caused (g.S.ByteSource.counts (source_of c.args.reader.now)) (g.S.ByteSource.counts (source_of c.read_frame.new.self)) (g.K.ByteSink.counts c.args.writer.now) (g.K.ByteSink.counts c.take_message.new.writer) c.take_message.result c.take_message.ensures.fault

pub returns-in-Ok-End-clause-comes : goal.returns-in-Ok-End-clause-comes
returns-in-Ok-End-clause-comes g c = λ config a v so_far not_exited free.
    let left = g.S.ByteSource.left in
    let keeps = rw c.in-Ok-End.field-0-is at c.in-Ok-End.ensures.keeps in
    let shown = rw c.in-Ok-End.field-0-is at (c.in-Ok-End.ensures.frame c.requires) in
    rw keeps (input_ends config a (left (source_of c.args.reader.now)) (left (source_of c.read_frame.new.self)) v (g.K.ByteSink.written c.args.writer.now) (core_state c.args.core.now) so_far not_exited shown)

pub returns-in-Ok-End-clause-reads : goal.returns-in-Ok-End-clause-reads
returns-in-Ok-End-clause-reads g c = calm_calls _ _ _ _ c.read_frame.ensures.counts (c.in-Ok-End.ensures.calm c.requires) c.read_frame.ensures.once

pub returns-in-Ok-End-clause-writes : goal.returns-in-Ok-End-clause-writes
returns-in-Ok-End-clause-writes g c = no_calls _ _ _

pub returns-in-Err-clause-comes : goal.returns-in-Err-clause-comes
returns-in-Err-clause-comes g c = λ config a v so_far not_exited free.
    let left = g.S.ByteSource.left in
    rw (c.in-Err.ensures.keeps, c.end_by.ensures) (fault_comes config a (left (source_of c.args.reader.now)) (left (source_of c.read_frame.new.self)) v (g.K.ByteSink.written c.args.writer.now) (core_state c.args.core.now) so_far not_exited c.in-Err.fault (c.in-Err.ensures.frame c.requires))

pub returns-in-Err-clause-reads : goal.returns-in-Err-clause-reads
returns-in-Err-clause-reads g c = rw c.end_by.ensures (fault_calls _ _ c.in-Err.fault c.read_frame.ensures.counts (c.in-Err.ensures.calm c.requires) c.read_frame.ensures.once)

pub returns-in-Err-clause-writes : goal.returns-in-Err-clause-writes
returns-in-Err-clause-writes g c = no_calls _ _ _

pub returns-in-Err-clause-cause : goal.returns-in-Err-clause-cause
returns-in-Err-clause-cause g c = rw c.end_by.ensures (fault_cause (g.S.ByteSource.counts (source_of c.args.reader.now)) (g.S.ByteSource.counts (source_of c.read_frame.new.self)) (g.K.ByteSink.counts c.args.writer.now) (g.K.ByteSink.counts c.args.writer.now) c.in-Err.fault (c.in-Err.ensures.cause c.requires))

pub returns-in-Ok-Body-clause-goes_on : goal.returns-in-Ok-Body-clause-goes_on
returns-in-Ok-Body-clause-goes_on g c = λ none. rw c.in-Ok-Body.field-0-is at c.in-Ok-Body.ensures.keeps

pub returns-in-Err-clause-goes_on : goal.returns-in-Err-clause-goes_on
returns-in-Err-clause-goes_on g c = λ none. absurd (ends_by-not c.in-Err.fault (sym c.end_by.ensures ∙ none))
