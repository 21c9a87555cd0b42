use Rattle.work_files.proofs.WorkspaceLemmas.{text_of_workspace}
use Rattle.work_files.proofs.laws.texts_are_of_the_workspace.Goals as goal

pub returns : goal.returns
returns c = λ files apart path. text_of_workspace path files apart
