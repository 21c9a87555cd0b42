use Rattle.lsp_laws.proofs.EditedFiles.{files-edited}
use Rattle.lsp_laws.proofs.EditedUris.{uris-edited}
use Rattle.lsp_laws.proofs.document_laws.renames_edit_the_workspace.Goals as goal

pub returns-clause-files : goal.returns-clause-files
returns-clause-files c = files-edited c.documents_of_a_rename.ensures c.meaning_law.ensures.keeps c.places_apart.ensures.within

pub returns-clause-uris : goal.returns-clause-uris
returns-clause-uris c = uris-edited (files-edited c.documents_of_a_rename.ensures c.meaning_law.ensures.keeps c.places_apart.ensures.within) c.edit_ranges.ensures
