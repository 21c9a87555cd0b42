use Rattle.std.proofs.Common.{subst, sym}
use Rattle.work_index.specs.Pieces.{workspace_of}
use Rattle.work_update.specs.Updates.{IsWorkspaceOf}
use Rattle.work_update.proofs.Updates.{back_again, lent_workspace, of_workspace, one_workspace}
use Rattle.work_update.proofs.update.analyse_board.Goals as goal

pub returns-clause-analysis : goal.returns-clause-analysis
returns-clause-analysis c =
    let r = c.args.reads_others in
    let of : IsWorkspaceOf r c.args.board.now (workspace_of r c.in_ok-lent.lent) = lent_workspace r c.args.board.now c.lend_all.new.self c.in_ok-lent.lent c.in_ok-lent.ensures.lent c.in_ok-lent.ensures.back in
    let there : IsWorkspaceOf r c.args.board.now (workspace_of r c.pieces.result.now) = subst (λ ts. IsWorkspaceOf r c.args.board.now (workspace_of r ts)) (sym c.pieces.ensures.pieces) of in
    of_workspace c.analyse_here-found.result r (workspace_of r c.pieces.result.now) c.args.board.now c.analyse_here-found.ensures (λ w are. one_workspace r c.args.board.now (workspace_of r c.pieces.result.now) w there are)

pub returns-clause-board : goal.returns-clause-board
returns-clause-board c = back_again c.args.board.now c.lend_all.new.self c.take_back.new.self c.requires.here c.in_ok-lent.ensures.lent c.take_back.ensures.here
