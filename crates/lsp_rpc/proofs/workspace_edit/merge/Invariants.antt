use Rattle.std.proofs.Common.{◌≡◌, map, fold}
use Rattle.lsp_rpc.specs.WorkspaceEdit.{with_ranges, merged, document_ranges, changes_view}
use Rattle.lsp_rpc.proofs.workspace_edit.merge.Given as goal

-- what is merged so far and the documents that are left give the whole
abbrev pub invariant-documents : goal.invariant-documents
invariant-documents l = fold with_ranges (changes_view l.changes.entries) (map document_ranges l.document-iterator.rest.items) ≡ merged (map document_ranges l.fn.documents.items)
