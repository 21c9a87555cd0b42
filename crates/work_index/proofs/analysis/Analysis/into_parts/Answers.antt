use Rattle.std.proofs.Common.{subst}
use Rattle.work_index.specs.Workspace.{AnalysisData, IsKnown}
use Rattle.work_index.proofs.Known.{own_parts}
use Rattle.work_index.proofs.analysis.Analysis.into_parts.Goals as goal

pub returns-clause-known : goal.returns-clause-known
returns-clause-known c = subst (λ (a : AnalysisData). IsKnown a) c.self.view_is c.self.invariant.4

pub returns-clause-parts : goal.returns-clause-parts
returns-clause-parts c =
    let inside = c.self.inside in
    own_parts c.args.self (record { table = inside.table; files = inside.files; resolutions = inside.resolutions }) c.self.invariant c.self.view_is
