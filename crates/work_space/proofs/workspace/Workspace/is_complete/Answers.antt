use Rattle.std.proofs.Common.{ap, subst}
use Rattle.std.specs.Prelude.{◌↔◌, IsTrue}
use Rattle.piece_collector.specs.Board.{IsFull}
use Rattle.work_space.proofs.workspace.Workspace.is_complete.Goals as goal

pub returns-clause-full : goal.returns-clause-full
returns-clause-full c = subst (λ b. IsTrue c.is_complete.result ↔ IsFull b) (ap (λ w. w.board) c.self.view_is) c.is_complete.ensures.full
