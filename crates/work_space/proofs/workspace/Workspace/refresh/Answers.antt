use Rattle.std.proofs.Common.{ap, sym, subst}
use Rattle.piece_collector.specs.Board.{IsFull}
use Rattle.work_files.specs.Files.{workspace}
use Rattle.work_index.specs.Workspace.{sources_of}
use Rattle.work_space.proofs.Held.{workspace_of_board}
use Rattle.work_space.proofs.Keeps.{keeps_fresh, known_on_board}
use Rattle.work_space.proofs.workspace.Workspace.refresh.Goals as goal

pub analyse-requires-clause-full : goal.analyse-requires-clause-full
analyse-requires-clause-full c = subst IsFull (sym (ap (λ w. w.board) c.self.view_is)) c.requires

pub analyse-requires-clause-known : goal.analyse-requires-clause-known
analyse-requires-clause-known c = known_on_board c.self.inside.reads_others c.self.inside.files c.self.inside.board c.self.inside.known c.take-known.result c.self.invariant c.take-known.ensures.value

pub invariant_of-self-2 : goal.invariant_of-self-2
invariant_of-self-2 c =
    let files = c.self.inside.files in
    let others = c.self.inside.reads_others in
    keeps_fresh others files c.self.inside.board c.analyse.new.board c.self.inside.known c.current.result c.in_ok-analysis.analysis c.self.invariant c.analyse.ensures.board c.current.ensures.analysis c.current.ensures.changes
    (c.in_ok-analysis.ensures.analysis (sources_of others (workspace files)) (workspace_of_board others files c.self.inside.board c.self.invariant.ordered c.self.invariant.texts))
