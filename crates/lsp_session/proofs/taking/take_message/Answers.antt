use Rattle.std.proofs.Common.{Err, ap}
use Rattle.lsp_core.specs.View.{core_state}
use Rattle.lsp_session.proofs.ServingLemmas.{serving-more, stops_within, loses_message, message_comes, message_fails, exhausts_message, good_calls, bad_calls}
use Rattle.lsp_session.proofs.taking.take_message.Goals as goal

pub returns-in-Ok-clause-comes : goal.returns-in-Ok-clause-comes
returns-in-Ok-clause-comes g c = λ config a b left v so_far not_exited frame free.
    let written = g.K.ByteSink.written in
    let old = core_state c.args.core.now in
    let new = core_state c.reply_to.new.core in
    let sent = written c.reply_to.new.writer in
    rw c.exit_in.ensures (message_comes config a left v sent new (serving-more config a b left v (written c.args.writer.now) sent old new c.args.body.now so_far not_exited frame (c.in-Ok.ensures.knows config) (c.in-Ok.ensures.ok config)))

pub returns-in-Ok-clause-calls : goal.returns-in-Ok-clause-calls
returns-in-Ok-clause-calls g c = good_calls _ _ _ _ _ c.in-Ok.ensures.calls

pub returns-in-Err-clause-comes : goal.returns-in-Err-clause-comes
returns-in-Err-clause-comes g c = λ config a b left v so_far not_exited frame free.
    let written = g.K.ByteSink.written in
    let counts = g.K.ByteSink.counts in
    let sent = written c.reply_to.new.writer in
    message_fails config a left v sent (counts c.args.writer.now) (counts c.reply_to.new.writer) c.in-Err.fault c.in-Err.ensures.fault
    (stops_within config a b left v (written c.args.writer.now) sent (core_state c.args.core.now) c.args.body.now so_far frame (c.in-Err.ensures.err config))
    (loses_message config a b left v (written c.args.writer.now) sent (core_state c.args.core.now) c.args.body.now so_far frame (c.in-Err.ensures.err config))
    (λ is. exhausts_message config a b left v (written c.args.writer.now) (core_state c.args.core.now) c.args.body.now so_far frame (c.in-Err.ensures.stamps free (ap Err is) config))

pub returns-in-Err-clause-calls : goal.returns-in-Err-clause-calls
returns-in-Err-clause-calls g c = bad_calls _ _ _ _ c.in-Err.ensures.calls
