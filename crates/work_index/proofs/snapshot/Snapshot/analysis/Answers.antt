use Rattle.std.proofs.Common.{◌∙◌, ap}
use Rattle.work_index.specs.Workspace.{analysis}
use Rattle.work_index.proofs.snapshot.Snapshot.analysis.Goals as goal

pub returns : goal.returns
returns c = let known = c.self.invariant in known.is ∙ ap analysis c.self.view_is
