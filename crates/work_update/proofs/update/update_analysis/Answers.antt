use Rattle.std.proofs.Common.{List, ℕ, map, string_bytes, subst, sym}
use Rattle.work_index.specs.Pieces.{workspace_of}
use Rattle.work_index.specs.Workspace.{workspace_in}
use Rattle.work_update.specs.Updates.{IsWorkspaceOf, sources_by_path}
use Rattle.work_update.proofs.Updates.{back_again, comes_to, lent_workspace, named_in, of_workspace, one_workspace}
use Rattle.work_update.proofs.update.update_analysis.Goals as goal

pub add_file-requires : goal.add_file-requires
add_file-requires c =
    let file : List ℕ × List ℕ = (c.in-Some.piece.now.path, c.in-Some.piece.now.text) in
    let comes = comes_to c.args.reads_others c.args.earlier c.args.board.now (map string_bytes c.args.changes.now) file c.known.ensures c.requires.ordered c.requires.changes c.in-Some.ensures in
    comes.arrives

pub returns-in-Some-clause-analysis : goal.returns-in-Some-clause-analysis
returns-in-Some-clause-analysis c =
    let file : List ℕ × List ℕ = (c.in-Some.piece.now.path, c.in-Some.piece.now.text) in
    let comes = comes_to c.args.reads_others c.args.earlier c.args.board.now (map string_bytes c.args.changes.now) file c.known.ensures c.requires.ordered c.requires.changes c.in-Some.ensures in
    of_workspace c.add_file.result c.args.reads_others _ c.args.board.now (c.add_file.ensures comes.arrives) comes.with_it

pub update_by-updated-requires-clause-changes : goal.update_by-updated-requires-clause-changes
update_by-updated-requires-clause-changes c =
    let r = c.args.reads_others in
    let of : IsWorkspaceOf r c.args.board.now (workspace_of r c.in_ok-lent.lent) = lent_workspace r c.args.board.now c.lend_all.new.self c.in_ok-lent.lent c.in_ok-lent.ensures.lent c.in_ok-lent.ensures.back in
    let there : IsWorkspaceOf r c.args.board.now (workspace_of r c.pieces.result.now) = subst (λ ts. IsWorkspaceOf r c.args.board.now (workspace_of r ts)) (sym c.pieces.ensures.pieces) of in
    named_in r c.args.board.now (workspace_of r c.pieces.result.now) (map string_bytes c.args.changes.now) (sources_by_path (workspace_in c.args.earlier)) there c.requires.changes

pub returns-clause-analysis : goal.returns-clause-analysis
returns-clause-analysis c =
    let r = c.args.reads_others in
    let of : IsWorkspaceOf r c.args.board.now (workspace_of r c.in_ok-lent.lent) = lent_workspace r c.args.board.now c.lend_all.new.self c.in_ok-lent.lent c.in_ok-lent.ensures.lent c.in_ok-lent.ensures.back in
    let there : IsWorkspaceOf r c.args.board.now (workspace_of r c.pieces.result.now) = subst (λ ts. IsWorkspaceOf r c.args.board.now (workspace_of r ts)) (sym c.pieces.ensures.pieces) of in
    of_workspace c.update_by-updated.result r (workspace_of r c.pieces.result.now) c.args.board.now c.update_by-updated.ensures (λ w are. one_workspace r c.args.board.now (workspace_of r c.pieces.result.now) w there are)

pub returns-clause-board : goal.returns-clause-board
returns-clause-board c = back_again c.args.board.now c.lend_all.new.self c.take_back.new.self c.requires.here c.in_ok-lent.ensures.lent c.take_back.ensures.here
