use Rattle.std.proofs.Common.{rules, ◌+◌, ◌∙◌, flat_map, drop, length}
use Rattle.std.proofs.lemmas.Iterator.Adapters.{YieldsList-from_vec}
use Rattle.std.proofs.lemmas.Iterator.Consumers.{YieldsList-so_far, YieldsList-turn}
use Rattle.lsp_frame.proofs.CountsLemmas.{NoneFell-trans}
use Rattle.check_lines.specs.Lines.{cut}
use Rattle.work_config.proofs.SendingLemmas.{front-behind}
use Rattle.work_check.specs.Steps.{still_first}
use Rattle.work_check.proofs.LinesLemmas.{on_err, shares-first, shares-more, still-more, walked-to}
use Rattle.work_check.proofs.checking.send_shares.Goals as goal

pub shares-preserved : goal.shares-preserved
shares-preserved g c =
    let written = g.K.ByteSink.written in
    let at = c.shares.invariant in
    let array = c.args.array in
    let here = c.in-Some.share in
    record {
      none_fell = NoneFell-trans at.none_fell c.send.ensures.counts;
      no_error = c.in_ok-send.ensures.calm ∙ at.no_error;
      first = still-more (λ share. share.lines.items) array c.shares.first c.cut_first.new.first c.shares.yielded here at.first (rw c.as_slice.ensures.value at c.cut_first.ensures.first);
      sent = shares-more (λ share. share.lines.items) array c.shares.first c.shares.yielded here (written c.args.writer.now) (written c.shares.writer) (written c.send.new.writer) at.first
          at.sent (rw (c.cut_first.ensures.lines, c.as_slice.ensures.value) at c.in_ok-send.ensures.ok);
    }

pub returns-in_err-send-clause-err : goal.returns-in_err-send-clause-err
returns-in_err-send-clause-err g c =
    let written = g.K.ByteSink.written in
    let lines = flat_map (λ share. share.lines.items) in
    let all = c.args.shares.items in
    let done = c.shares.yielded in
    let more = drop (length done + 1) all in
    let array = c.args.array in
    let so_far = YieldsList-so_far (YieldsList-from_vec all c.into_iter-share-iterator.ensures.into_iter_gives.0 (search rules)) done _ c.shares.yielded_by in
    let turn = YieldsList-turn (YieldsList-from_vec all c.into_iter-share-iterator.ensures.into_iter_gives.0 (search rules)) done _ c.shares.yielded_by _ c.next.new.self c.in-Some.share c.in-Some.is c.next.ensures.steps in
    let joined = shares-first (λ share. share.lines.items) array all done more c.in-Some.share (walked-to all done c.in-Some.share so_far turn) in
    let now = still_first array (lines done) in
    on_err c.from_residual.result
    (front-behind (written c.args.writer.now) (written c.shares.writer) (written c.send.new.writer) (cut array (lines done)) (cut now c.in-Some.share.lines.items)
    (cut (still_first now c.in-Some.share.lines.items) (lines more)) _ joined c.shares.invariant.sent (rw (c.cut_first.ensures.lines, c.as_slice.ensures.value, c.shares.invariant.first) at c.in_err-send.ensures.err))
