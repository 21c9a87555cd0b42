use Rattle.lsp_laws.proofs.Documents.{documents-respelled}
use Rattle.lsp_laws.proofs.document_laws.documents_of_a_rename.Goals as goal

pub returns : goal.returns
returns c = documents-respelled c.files_once.ensures c.places_in_order.ensures c.renames_change_the_names.ensures
