use Rattle.std.proofs.Common.{◌∙◌, length, ap}
use Rattle.work_index.proofs.OfAnalysis.{as_many}
use Rattle.work_index.proofs.snapshot.Snapshot.file_count.Goals as goal

pub returns : goal.returns
returns c = c.file_count.ensures ∙ as_many c.self.inside.analysis.now c.self.invariant ∙ ap length c.self.view_is
