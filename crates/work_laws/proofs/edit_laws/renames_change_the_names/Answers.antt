use Rattle.work_laws.proofs.Renames.{renames-change}
use Rattle.work_laws.proofs.edit_laws.renames_change_the_names.Goals as goal

pub returns : goal.returns
returns c = renames-change c.edits_change_the_places.ensures.places c.identifier_form_law.ensures c.places_apart.ensures.apart c.identifiers_law.ensures c.other_names_law.ensures.identifiers c.size_law.ensures.empty
