use Rattle.work_index.specs.AnalysisParts.{AreParts}
use Rattle.work_index.proofs.Known.{hold_together, is_analysis}
use Rattle.work_index.proofs.analysis.Analysis.of_parts.Goals as goal

pub invariant_of-result : goal.invariant_of-result
invariant_of-result c =
    let are : AreParts c.requires.0 c.args.parts = c.requires.1 in
    hold_together c.requires.0 _ _ _ _ are.table are.files are.links are.diagnostics

pub returns : goal.returns
returns c = λ w are. is_analysis w _ _ _ _ are.table are.files are.links are.diagnostics
