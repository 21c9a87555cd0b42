use Rattle.std.proofs.Common.{subst}
use Rattle.work_index.specs.Workspace.{AnalysisData, IsKnown}
use Rattle.work_index.proofs.analysis.Analysis.known.Goals as goal

pub returns : goal.returns
returns c = subst (λ (a : AnalysisData). IsKnown a) c.self.view_is c.self.invariant.4
