use Rattle.lsp_laws.proofs.FileUris.{session-renames, uris-stay, written-roots}
use Rattle.lsp_laws.proofs.uri_laws.uris_stay_apart.Goals as goal

pub returns-clause-stay : goal.returns-clause-stay
returns-clause-stay c = uris-stay c.roots_stay.ensures.roots c.roots_stay.ensures.kept

pub returns-clause-start : goal.returns-clause-start
returns-clause-start c = written-roots c.file_uris_of_several_roots.ensures

pub returns-clause-renames : goal.returns-clause-renames
returns-clause-renames c = session-renames (uris-stay c.roots_stay.ensures.roots c.roots_stay.ensures.kept) c.renames_edit_the_workspace.ensures.uris
