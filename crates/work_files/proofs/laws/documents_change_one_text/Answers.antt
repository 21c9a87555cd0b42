use Rattle.work_files.proofs.TextChanges.{texts_change}
use Rattle.work_files.proofs.laws.documents_change_one_text.Goals as goal

pub returns : goal.returns
returns c = texts_change
