use Rattle.std.proofs.Common.{◌≡◌, ◌-◌, ◌++◌, take, drop, length, map, ap, sym, ◌∙◌, arith, append-nil, drop-drop, length-drop}
use Rattle.std.proofs.lemmas.List.{take_all, drop_all}
use Rattle.lsp_rpc.specs.WorkspaceEdit.{document_ranges}
use Rattle.lsp_answers.specs.Answers.{documents_of}
use Rattle.lsp_answers.proofs.DocumentsLemmas.{locations-are}
use Rattle.lsp_answers.proofs.answers.Answers.documents_of.Goals as goal

pub places-preserved : goal.places-preserved
places-preserved c =
    let items = c.args.places.now in
    let done = c.places.done in
    let n = c.in_ok-done.field-0 in
    let left = documents_of c.args.self.now in
    let rest : take (length items - done) (drop done items) ≡ drop done items = take_all _ _ (omega (arith, length-drop done items)) in
    let within = rw rest at c.in_ok-done.ensures.within in
    let more = rw rest at c.in_ok-done.ensures.added in
    record {
      within = omega (arith, within, length-drop done items, c.places.invariant.within);
      documents = ap (λ l. map document_ranges c.push_document.new.documents.items ++ left l) (sym (drop-drop n done items)) ∙ more ∙ c.places.invariant.documents;
    }

pub returns-clause-documents : goal.returns-clause-documents
returns-clause-documents c =
    let left = documents_of c.args.self.now in
    let found = map document_ranges c.places.documents.items in
    sym (append-nil found) ∙ ap (λ l. found ++ left l) (sym (drop_all c.places.done c.args.places.now (omega (arith, c.places-test.false)))) ∙ c.places.invariant.documents

pub returns-clause-locations : goal.returns-clause-locations
returns-clause-locations c =
    let left = documents_of c.args.self.now in
    let found = map document_ranges c.places.documents.items in
    let all = sym (append-nil found) ∙ ap (λ l. found ++ left l) (sym (drop_all c.places.done c.args.places.now (omega (arith, c.places-test.false)))) ∙ c.places.invariant.documents in
    locations-are c.args.self.now c.places.documents.items c.args.places.now all
