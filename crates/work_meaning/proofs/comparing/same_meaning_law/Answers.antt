use Rattle.work_meaning.proofs.Meaning.{same-meaning-law}
use Rattle.work_meaning.proofs.comparing.same_meaning_law.Goals as goal

pub returns : goal.returns
returns c = same-meaning-law
