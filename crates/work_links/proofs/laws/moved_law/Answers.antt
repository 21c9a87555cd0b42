use Rattle.work_links.proofs.MovedNames.{moved_law}
use Rattle.work_links.proofs.laws.moved_law.Goals as goal

pub returns : goal.returns
returns c = λ old new f f' to text tree alike. moved_law old new f f' to text tree alike
