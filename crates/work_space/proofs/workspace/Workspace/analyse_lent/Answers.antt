use denote.Param.Send.{sendable}
use Rattle.std.proofs.Crossing.{crosses}
use Rattle.std.proofs.Common.{◌≡◌, ◌∙◌, ap, sym, subst}
use Rattle.piece_collector.specs.Board.{IsFull}
use Rattle.work_index.proofs.Crossing.{out_send}
use Rattle.work_index.specs.Pieces.{workspace_of}
use Rattle.work_index.specs.Workspace.{analysis, sources_of}
use Rattle.work_files.specs.Files.{workspace}
use Rattle.work_space.proofs.Keeps.{keeps_fresh, keeps_nothing, lent_files}
use Rattle.work_update.proofs.Updates.{back_again}
use Rattle.work_space.proofs.workspace.Workspace.analyse_lent.Goals as goal

pub lend_all-requires-send-W-Out : goal.lend_all-requires-send-W-Out
lend_all-requires-send-W-Out g c = λ κs. search (sendable, crosses, out_send) depth 40

pub take_back-requires-send-W-Out : goal.take_back-requires-send-W-Out
take_back-requires-send-W-Out g c = λ κs. search (sendable, crosses, out_send) depth 40

pub counting_from-requires-send-W-Out : goal.counting_from-requires-send-W-Out
counting_from-requires-send-W-Out g c = λ κs. search (sendable, crosses, out_send) depth 40

pub lend_all-requires-clause-full : goal.lend_all-requires-clause-full
lend_all-requires-clause-full g c = λ k. subst IsFull (sym (ap (λ w. w.board) c.self.view_is)) c.requires

pub invariant_of-self-in-Ok : goal.invariant_of-self-in-Ok
invariant_of-self-in-Ok g c =
    let files = c.self.inside.files in
    let others = c.self.inside.reads_others in
    let w : workspace_of others c.in_ok-lent.lent ≡ sources_of others (workspace files) = lent_files others files c.self.inside.board c.lend_all.new.self c.in_ok-lent.lent c.self.inside.known c.self.invariant c.in_ok-lent.ensures.lent c.in_ok-lent.ensures.back in
    let back = back_again c.self.inside.board c.lend_all.new.self c.take_back.new.self c.self.invariant.here c.in_ok-lent.ensures.lent c.take_back.ensures.here in
    keeps_fresh others files c.self.inside.board c.take_back.new.self c.self.inside.known c.current.result c.in-Ok.analysis c.self.invariant back c.current.ensures.analysis c.current.ensures.changes (c.in-Ok.ensures.analysis ∙ ap analysis w)

pub invariant_of-self-in-Err : goal.invariant_of-self-in-Err
invariant_of-self-in-Err g c = keeps_nothing c.self.inside.reads_others c.new.result c.counting_from.result c.new.ensures c.counting_from.ensures.here c.counting_from.ensures.texts
