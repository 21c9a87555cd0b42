use Rattle.work_links.proofs.TouchedNames.{touched_law}
use Rattle.work_links.proofs.laws.touched_law.Goals as goal

pub returns : goal.returns
returns c = λ old new touched f asked text tree other differ imports has untouched. touched_law old new touched f asked text tree other differ imports has untouched
