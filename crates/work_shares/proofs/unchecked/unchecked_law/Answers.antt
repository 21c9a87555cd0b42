use Rattle.std.proofs.lemmas.List.{length-map}
use Rattle.work_shares.proofs.WhyUnchecked.{is_told}
use Rattle.work_shares.proofs.unchecked.unchecked_law.Goals as goal

pub returns : goal.returns
returns c files f lt = is_told files f (rw length-map lt)
