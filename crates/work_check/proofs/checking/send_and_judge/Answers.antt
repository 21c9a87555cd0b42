use Rattle.std.proofs.Common.{[], append-nil, sym}
use Rattle.work_config.proofs.SendingLemmas.{front-of}
use Rattle.work_check.specs.Steps.{all_written}
use Rattle.work_check.proofs.checking.send_and_judge.Goals as goal

pub returns-in-Ok-clause-prefix : goal.returns-in-Ok-clause-prefix
returns-in-Ok-clause-prefix g c =
    let all = all_written c.args.listed.now in
    let written = g.K.ByteSink.written in
    front-of (written c.args.writer.now) (written c.send_document.new.writer) all [] all (sym (append-nil all)) c.in_ok-send_document.ensures.ok
