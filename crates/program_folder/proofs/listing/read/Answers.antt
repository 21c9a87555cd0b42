use Rattle.std.proofs.Common.{inr, refl}
use Rattle.program_folder.proofs.listing.read.Goals as goal

pub returns-in-Ok : goal.returns-in-Ok
returns-in-Ok g c = inr (_, c.in_ok-push-in-Ok.ensures.items, refl, refl)
