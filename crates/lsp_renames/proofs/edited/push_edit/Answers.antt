use Rattle.std.proofs.Common.{◌≡◌, ◌+◌, ◌-◌, ◌++◌, take, drop, length, map, get_or, ℕ, List, [], ap, subst, sym, ◌∙◌, arith, length-drop, IsUtf8}
use Rattle.std.proofs.lemmas.List.{take_all}
use Rattle.std.proofs.lemmas.Option.{get_or_from_slice_get}
use Rattle.work_index.specs.Workspace.{texts_of}
use Rattle.work_meaning.specs.Edited.{edit_view}
use Rattle.work_meaning.specs.declared.edited.EditedText.{EditedText}
use Rattle.lsp_renames.specs.ByFile.{by_file}
use Rattle.lsp_renames.specs.Cutting.{CanBeCut, edits_of}
use Rattle.lsp_renames.specs.Edited.{respelled}
use Rattle.lsp_queries.specs.declared.place.Place.{Place}
use Rattle.lsp_renames.proofs.ByFile.{first_run, one_more, own_run}
use Rattle.lsp_renames.proofs.Cuts.{run_cut}
use Rattle.lsp_renames.proofs.edited.push_edit.Goals as goal

pub respelled-requires : goal.respelled-requires
respelled-requires c =
    let items = c.args.places.now in
    let any : Place = record { file = 0; start = 0; «end» = 0 } in
    let file = (get_or items 0 any).file in
    let n = c.count_in-count.result in
    let text = get_or_from_slice_get (texts_of c.args.analysis.now.sources) file c.text.result.now [] c.text.ensures in
    let rest : take (length items - 1) (drop 1 items) ≡ drop 1 items = take_all _ _ (omega (arith, length-drop 1 items)) in
    subst (λ text. CanBeCut text 0 (take (1 + n) items)) text
    (run_cut c.args.analysis.now file items (1 + n) (subst IsUtf8 (sym text) c.text.utf8)
    (own_run items n any c.requires.some (rw rest at c.count_in-count.ensures.all)) c.requires.cut)

pub returns-clause-added : goal.returns-clause-added
returns-clause-added c =
    let items = c.args.places.now in
    let any : Place = record { file = 0; start = 0; «end» = 0 } in
    let n = c.count_in-count.result in
    let name = c.args.name.now in
    let texts = texts_of c.args.analysis.now.sources in
    let file = (get_or items 0 any).file in
    let rest : take (length items - 1) (drop 1 items) ≡ drop 1 items = take_all _ _ (omega (arith, length-drop 1 items)) in
    let cut = first_run items n any c.requires.some (rw rest at c.count_in-count.ensures.all) (rw rest at c.count_in-count.ensures.end) in
    let f : ℕ × List Place → ℕ × List ℕ = λ g. (g.0, respelled name (get_or texts g.0 []) g.1) in
    let added : EditedText = record { file = file; text = c.in_ok-text.text } in
    let group : ℕ × List Place = (file, take (1 + n) items) in
    let text = get_or_from_slice_get texts file c.text.result.now [] c.text.ensures in
    let own = c.in_ok-text.ensures ∙ ap (λ text. respelled name text (take (1 + n) items)) (sym text) in
    ap (λ es. map edit_view es ++ edits_of name texts (drop (1 + n) items)) c.in_ok-push.ensures.items
    ∙ one_more edit_view f c.args.edits.now.items added group (by_file (drop (1 + n) items)) (by_file items)
    (ap (λ (text : List ℕ). (file, text)) own) cut
