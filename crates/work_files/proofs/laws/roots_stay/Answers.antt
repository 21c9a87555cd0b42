use Rattle.work_files.proofs.RootsLemmas.{roots_stay, found_files_stay_kept}
use Rattle.work_files.proofs.laws.roots_stay.Goals as goal

pub returns-clause-roots : goal.returns-clause-roots
returns-clause-roots c = roots_stay

pub returns-clause-kept : goal.returns-clause-kept
returns-clause-kept c = found_files_stay_kept
