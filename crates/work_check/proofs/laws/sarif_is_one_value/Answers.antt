use Rattle.work_check.proofs.SarifTexts as texts
use Rattle.work_check.proofs.laws.sarif_is_one_value.Goals as goal

pub returns : goal.returns
returns c = texts.sarif_is_one_value
