use denote.Param.Send.{sendable}
use Rattle.std.proofs.Crossing.{crosses}
use Rattle.std.proofs.Common.{◌≡◌, ◌∙◌, ap, sym, subst}
use Rattle.piece_collector.specs.Board.{IsFull}
use Rattle.work_index.proofs.Crossing.{out_send}
use Rattle.work_index.specs.Pieces.{workspace_of}
use Rattle.work_index.specs.Workspace.{sources_of}
use Rattle.work_shares.specs.Diagnosis.{diagnosis}
use Rattle.work_files.specs.Files.{workspace}
use Rattle.work_space.specs.View.{WorkspaceData, diagnosed_files}
use Rattle.work_space.proofs.Keeps.{lent_files}
use Rattle.work_space.proofs.workspace.Workspace.into_diagnosed.Goals as goal
use Rattle.work_index.proofs.Known.{zipped}

pub lend_all-requires-send-W-Out : goal.lend_all-requires-send-W-Out
lend_all-requires-send-W-Out g c = λ κs. search (sendable, crosses, out_send) depth 40

pub lend_all-requires-clause-full : goal.lend_all-requires-clause-full
lend_all-requires-clause-full g c = λ k. subst IsFull (sym (ap (λ w. w.board) c.self.view_is)) c.requires

pub of-requires : goal.of-requires
of-requires g c =
    let files = c.self.inside.files in
    let others = c.self.inside.reads_others in
    let own = sources_of others (workspace files) in
    let lent : workspace_of others c.in_ok-lent.lent ≡ own = lent_files others files c.self.inside.board c.lend_all.new.self c.in_ok-lent.lent c.self.inside.known c.self.invariant c.in_ok-lent.ensures.lent c.in_ok-lent.ensures.back in
    let is : c.in_ok-diagnosis.diagnosis ≡ diagnosis own = c.in_ok-diagnosis.ensures.diagnosis ∙ ap diagnosis lent in
    is ∙ ap diagnosis (sym (ap diagnosed_files is ∙ zipped own))

pub returns : goal.returns
returns g c =
    let files = c.self.inside.files in
    let others = c.self.inside.reads_others in
    let own = sources_of others (workspace files) in
    let lent : workspace_of others c.in_ok-lent.lent ≡ own = lent_files others files c.self.inside.board c.lend_all.new.self c.in_ok-lent.lent c.self.inside.known c.self.invariant c.in_ok-lent.ensures.lent c.in_ok-lent.ensures.back in
    let is : c.in_ok-diagnosis.diagnosis ≡ diagnosis own = c.in_ok-diagnosis.ensures.diagnosis ∙ ap diagnosis lent in
    c.of.ensures ∙ (ap diagnosed_files is ∙ zipped own) ∙ ap (λ (w : WorkspaceData). sources_of w.reads_others (workspace w.files)) c.self.view_is
