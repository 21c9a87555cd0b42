use Rattle.std.proofs.Common.{◌∙◌, ◌<◌, ℕ, List, None, length, map, arith, refl, sym, ap, subst}
use Rattle.std.specs.Prelude.{All, option_map, string_bytes}
use Rattle.std.proofs.lemmas.List.{get_or-map, length-map}
use Rattle.work_meaning.specs.Edited.{edit_view}
use Rattle.work_meaning.specs.declared.edited.EditedText.{EditedText}
use Rattle.work_meaning.proofs.TextsByFile.{AreOwn, from_view, none-own, one-own}
use Rattle.work_meaning.proofs.edited.own_edits.Goals as goal

pub loop-file-init : goal.loop-file-init
loop-file-init c =
    let views = map (option_map string_bytes) c.args.texts.now in
    subst (λ (es : List EditedText). AreOwn c.args.own views 0 (map edit_view es)) (sym c.new-edits.ensures.items) (none-own c.args.own views)

pub loop-file-preserved : goal.loop-file-preserved
loop-file-preserved c =
    let texts = c.args.texts.now in
    let views = map (option_map string_bytes) texts in
    let file = c.loop-file.file in
    let text = c.index-texts-file.result in
    let there : file < length texts = c.loop-file-test.true in
    one-own c.args.own views file (map edit_view c.loop-file.edits.items) c.loop-file.invariant (omega (arith, there, length-map texts (option_map string_bytes))) (option_map string_bytes text)
    (sym (get_or-map (option_map string_bytes) texts file text None there ∙ ap (option_map string_bytes) (sym c.index-texts-file.is)))
    (map edit_view c.push_own.new.edits.items) c.in_ok-push_own.ensures

pub returns-clause-within : goal.returns-clause-within
returns-clause-within c =
    let texts = c.args.texts.now in
    let edits : List EditedText = c.loop-file.edits.items in
    let so_far = c.loop-file.invariant in
    subst (λ (m : ℕ). All (λ e. e.file < m) edits) (length-map texts (option_map string_bytes))
    (from_view (λ m. m < length (map (option_map string_bytes) texts)) (λ (e : EditedText). e.file) edits (map edit_view edits) edit_view refl (λ e. refl) so_far.within)

pub returns-clause-texts : goal.returns-clause-texts
returns-clause-texts c = λ n t lt. let so_far = c.loop-file.invariant in so_far.done n t (omega (arith, lt, c.loop-file-test.false))
