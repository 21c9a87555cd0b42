use Rattle.std.proofs.Common.{◌≡◌, ◌∙◌, ◌∷◌, [], List, length, map, arith, refl, sym, ap}
use Rattle.std.proofs.lemmas.List.{map-append, length-set}
use Rattle.work_index.specs.Workspace.{Workspace}
use Rattle.work_meaning.specs.Edited.{edit_view, with_texts}
use Rattle.work_meaning.specs.declared.edited.EditedText.{EditedText}
use Rattle.work_meaning.proofs.OtherTexts.{front, last_of, no_texts, one_text, texts_of_two}
use Rattle.work_meaning.proofs.edited.edit_all.Goals as goal

pub edit-requires : goal.edit-requires
edit-requires c = last_of c.edits.edits.items c.pop.new.self.items c.in-Some.edited c.edits.files.items c.in-Some.ensures.items c.edits.invariant.within

pub edits-preserved : goal.edits-preserved
edits-preserved c =
    let rest : List EditedText = c.pop.new.self.items in
    let edited : EditedText = c.in-Some.edited in
    let left = map edit_view rest in
    let last = edit_view edited in
    let files : Workspace = c.edits.files.items in
    let all = ap (map edit_view) c.in-Some.ensures.items ∙ map-append edit_view rest (edited ∷ []) in
    let there = last_of c.edits.edits.items rest edited files c.in-Some.ensures.items c.edits.invariant.within in
    let count : length c.edit.new.files.items ≡ length files = ap length c.in_ok-edit.ensures ∙ length-set files edited.file _ in record {
      within = front c.edits.edits.items rest edited files c.edit.new.files.items c.in-Some.ensures.items count c.edits.invariant.within;
      left = ap (with_texts left) (one_text edited.file last.1 files c.edit.new.files.items there c.in_ok-edit.ensures)
          ∙ sym (texts_of_two left (last ∷ []) files) ∙ ap (λ es. with_texts es files) (sym all) ∙ c.edits.invariant.left;
    }

none : (edits : List EditedText) → length edits ≡ 0 → edits ≡ []
none [] empty = refl
none (e ∷ edits) empty = absurd (omega (arith, empty))

pub returns : goal.returns
returns c =
    let left : List EditedText = c.edits.edits.items in
    let empty : left ≡ [] = none left (omega (arith, c.in_default.ensures.cases.0, c.edits.edits.ok)) in
    sym (no_texts c.edits.files.items) ∙ ap (λ (es : List EditedText). with_texts (map edit_view es) c.edits.files.items) (sym empty) ∙ c.edits.invariant.left
