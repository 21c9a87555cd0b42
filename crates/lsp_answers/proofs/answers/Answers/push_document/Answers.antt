use Rattle.std.proofs.Common.{◌≡◌, ◌+◌, ◌-◌, ◌++◌, take, drop, length, map, get_or, ap, ◌∙◌, arith, length-drop}
use Rattle.std.proofs.lemmas.List.{take_all}
use Rattle.lsp_renames.specs.ByFile.{by_file}
use Rattle.lsp_queries.specs.declared.place.Place.{Place}
use Rattle.lsp_renames.proofs.ByFile.{first_run, one_more}
use Rattle.lsp_rpc.specs.WorkspaceEdit.{document_ranges}
use Rattle.lsp_answers.specs.Answers.{document_of}
use Rattle.lsp_answers.proofs.answers.Answers.push_document.Goals as goal

pub returns-clause-added : goal.returns-clause-added
returns-clause-added c =
    let items = c.args.places.now in
    let any : Place = record { file = 0; start = 0; «end» = 0 } in
    let n = c.count_in-count.result in
    let f = document_of c.args.self.now in
    let rest : take (length items - 1) (drop 1 items) ≡ drop 1 items = take_all _ _ (omega (arith, length-drop 1 items)) in
    let cut = first_run items n any c.requires (rw rest at c.count_in-count.ensures.all) (rw rest at c.count_in-count.ensures.end) in
    let left = by_file (drop (1 + n) items) in
    ap (λ ds. map document_ranges ds ++ map f left) c.in_ok-push.ensures.items
    ∙ one_more document_ranges f c.args.documents.now.items c.in_ok-document.document ((get_or items 0 any).file, take (1 + n) items) left (by_file items) c.in_ok-document.ensures cut
