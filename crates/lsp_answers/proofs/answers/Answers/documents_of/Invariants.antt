use Rattle.std.proofs.Common.{◌≡◌, ◌≤◌, ◌-◌, ◌++◌, length, map, drop}
use Rattle.lsp_rpc.specs.WorkspaceEdit.{document_ranges}
use Rattle.lsp_answers.specs.Answers.{documents_of}
use Rattle.lsp_answers.proofs.answers.Answers.documents_of.Given as goal

-- the documents so far and those of the places that are left are all
abbrev pub invariant-places : goal.invariant-places
invariant-places l = record {
  within : l.done ≤ length l.places;
  documents : map document_ranges l.documents.items ++ documents_of l.self (drop l.done l.places) ≡ documents_of l.self l.places;
}

abbrev pub decreases-places : goal.decreases-places
decreases-places l = length l.places - l.done
