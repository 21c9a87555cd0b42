use Rattle.work_laws.proofs.Edits.{edits-change}
use Rattle.work_laws.proofs.edit_laws.edits_change_the_places.Goals as goal

pub returns-clause-places : goal.returns-clause-places
returns-clause-places c = edits-change c.round_trips.ensures c.changes_keep_utf8.ensures
