use Rattle.work_links.proofs.AskedAlone.{asked_law}
use Rattle.work_links.proofs.laws.asked_law.Goals as goal

pub returns : goal.returns
returns c = λ old new f move text tree keeps same. asked_law old new f move text tree keeps same
