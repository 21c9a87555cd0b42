use Rattle.lsp_frame.specs.FrameReader.{source_of, last_answer}
use Rattle.lsp_session.proofs.ServingLemmas.{served-prefix, served-whole, served-ended, served-behind, served-goes_on, served-leaves, served-code, served-loses, served-answered, served-exhausted, served-fault, cause-read, cause-write}
use Rattle.lsp_session.proofs.serving.serve.Goals as goal

pub returns-clause-prefix : goal.returns-clause-prefix
returns-clause-prefix g c =
    let left = g.S.ByteSource.left in
    let written = g.K.ByteSink.written in
    served-prefix c.args.config (left (source_of c.args.reader.now)) (left (source_of c.run.new.reader)) (written c.args.writer.now) (written c.run.new.writer) (last_answer c.run.new.reader) c.run.result c.run.ensures.served

pub returns-clause-whole : goal.returns-clause-whole
returns-clause-whole g c =
    let left = g.S.ByteSource.left in
    let written = g.K.ByteSink.written in
    served-whole c.args.config (left (source_of c.args.reader.now)) (left (source_of c.run.new.reader)) (written c.args.writer.now) (written c.run.new.writer) (last_answer c.run.new.reader) c.run.result c.run.ensures.served

pub returns-clause-ended : goal.returns-clause-ended
returns-clause-ended g c =
    let left = g.S.ByteSource.left in
    let written = g.K.ByteSink.written in
    served-ended c.args.config (left (source_of c.args.reader.now)) (left (source_of c.run.new.reader)) (written c.args.writer.now) (written c.run.new.writer) (last_answer c.run.new.reader) c.run.result c.run.ensures.served

pub returns-clause-behind : goal.returns-clause-behind
returns-clause-behind g c =
    let left = g.S.ByteSource.left in
    let written = g.K.ByteSink.written in
    served-behind c.args.config (left (source_of c.args.reader.now)) (left (source_of c.run.new.reader)) (written c.args.writer.now) (written c.run.new.writer) (last_answer c.run.new.reader) c.run.result c.run.ensures.served

pub returns-clause-goes_on : goal.returns-clause-goes_on
returns-clause-goes_on g c =
    let left = g.S.ByteSource.left in
    let written = g.K.ByteSink.written in
    served-goes_on c.args.config (left (source_of c.args.reader.now)) (left (source_of c.run.new.reader)) (written c.args.writer.now) (written c.run.new.writer) (last_answer c.run.new.reader) c.run.result c.run.ensures.served

pub returns-clause-leaves : goal.returns-clause-leaves
returns-clause-leaves g c =
    let left = g.S.ByteSource.left in
    let written = g.K.ByteSink.written in
    served-leaves c.args.config (left (source_of c.args.reader.now)) (left (source_of c.run.new.reader)) (written c.args.writer.now) (written c.run.new.writer) (last_answer c.run.new.reader) c.run.result c.run.ensures.served

pub returns-clause-code : goal.returns-clause-code
returns-clause-code g c =
    let left = g.S.ByteSource.left in
    let written = g.K.ByteSink.written in
    served-code c.args.config (left (source_of c.args.reader.now)) (left (source_of c.run.new.reader)) (written c.args.writer.now) (written c.run.new.writer) (last_answer c.run.new.reader) c.run.result c.run.ensures.served

pub returns-clause-loses : goal.returns-clause-loses
returns-clause-loses g c =
    let left = g.S.ByteSource.left in
    let written = g.K.ByteSink.written in
    served-loses c.args.config (left (source_of c.args.reader.now)) (left (source_of c.run.new.reader)) (written c.args.writer.now) (written c.run.new.writer) (last_answer c.run.new.reader) c.run.result c.run.ensures.served

pub returns-clause-answered : goal.returns-clause-answered
returns-clause-answered g c =
    let left = g.S.ByteSource.left in
    let written = g.K.ByteSink.written in
    served-answered c.args.config (left (source_of c.args.reader.now)) (left (source_of c.run.new.reader)) (written c.args.writer.now) (written c.run.new.writer) (last_answer c.run.new.reader) c.run.result c.run.ensures.served

pub returns-clause-exhausted : goal.returns-clause-exhausted
returns-clause-exhausted g c =
    let left = g.S.ByteSource.left in
    let written = g.K.ByteSink.written in
    served-exhausted c.args.config (left (source_of c.args.reader.now)) (left (source_of c.run.new.reader)) (written c.args.writer.now) (written c.run.new.writer) (last_answer c.run.new.reader) c.run.result c.run.ensures.served

pub returns-clause-fault : goal.returns-clause-fault
returns-clause-fault g c =
    let left = g.S.ByteSource.left in
    let written = g.K.ByteSink.written in
    served-fault c.args.config (left (source_of c.args.reader.now)) (left (source_of c.run.new.reader)) (written c.args.writer.now) (written c.run.new.writer) (last_answer c.run.new.reader) c.run.result c.run.ensures.served

pub returns-clause-read : goal.returns-clause-read
returns-clause-read g c = cause-read (g.S.ByteSource.counts (source_of c.args.reader.now)) (g.S.ByteSource.counts (source_of c.run.new.reader)) (g.K.ByteSink.counts c.args.writer.now) (g.K.ByteSink.counts c.run.new.writer) c.run.result c.run.ensures.cause

pub returns-clause-write : goal.returns-clause-write
returns-clause-write g c = cause-write (g.S.ByteSource.counts (source_of c.args.reader.now)) (g.S.ByteSource.counts (source_of c.run.new.reader)) (g.K.ByteSink.counts c.args.writer.now) (g.K.ByteSink.counts c.run.new.writer) c.run.result c.run.ensures.cause

pub returns-clause-reads_calm : goal.returns-clause-reads_calm
returns-clause-reads_calm g c = c.run.ensures.reads.calm

pub returns-clause-writes_calm : goal.returns-clause-writes_calm
returns-clause-writes_calm g c = c.run.ensures.writes.calm

pub returns-clause-reads_reported : goal.returns-clause-reads_reported
returns-clause-reads_reported g c = c.run.ensures.reads.reported

pub returns-clause-writes_reported : goal.returns-clause-writes_reported
returns-clause-writes_reported g c = c.run.ensures.writes.reported

pub returns-clause-reads_once : goal.returns-clause-reads_once
returns-clause-reads_once g c = c.run.ensures.reads.once

pub returns-clause-writes_once : goal.returns-clause-writes_once
returns-clause-writes_once g c = c.run.ensures.writes.once
