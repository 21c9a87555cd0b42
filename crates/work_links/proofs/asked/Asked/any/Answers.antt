use Rattle.std.proofs.Common.{refl, true}
use Rattle.work_links.proofs.AskedNames.{has_all-any}
use Rattle.work_links.proofs.asked.Asked.any.Goals as goal

pub returns : goal.returns
returns c = λ names. has_all-any (record { uses = c.new.result; declares = c.new-2.result; all = true }) names refl
