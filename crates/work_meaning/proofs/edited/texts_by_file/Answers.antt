use Rattle.std.proofs.Common.{◌≡◌, ◌∙◌, ◌<◌, ◌∷◌, [], List, None, Some, length, get_or, map, arith, refl, sym, ap, length-append}
use Rattle.std.specs.Prelude.{option_map, string_bytes, unwrap_or}
use Rattle.std.proofs.lemmas.List.{get_or-map, length-map, length-set, map-append, map-set}
use Rattle.work_meaning.specs.Edited.{edit_view, text_after}
use Rattle.work_meaning.specs.declared.edited.EditedText.{EditedText}
use Rattle.work_meaning.proofs.OtherTexts.{text_of_two}
use Rattle.work_meaning.proofs.TextsByFile.{All-front, All-last, none-more, put-text}
use Rattle.work_meaning.proofs.edited.texts_by_file.Goals as goal

pub places-init : goal.places-init
places-init c =
    let empty = c.in_ok-texts.ensures.items in
    record { long = ap length empty; none = λ n. ap (λ l. get_or l n None) empty }

pub places-preserved : goal.places-preserved
places-preserved c =
    let so_far = c.places.invariant in
    let more = c.in_ok-push.ensures.items in
    record {
      long = omega (arith, ap length more, length-append c.places.texts.items (None ∷ []), so_far.long);
      none = λ n. ap (λ l. get_or l n None) more ∙ none-more c.places.texts.items so_far.none n;
    }

pub edits-init : goal.edits-init
edits-init c =
    let empty = c.places.invariant in
    let texts = c.places.texts.items in
    let long : length texts ≡ c.args.count = omega (arith, empty.long, c.places-test.false, let auto = c.places.auto in auto.counter-end) in
    record {
      within = c.requires;
      long = long;
      left = λ n t lt. ap (λ o. text_after (map edit_view c.args.edits.items) n (unwrap_or o t)) (get_or-map (option_map string_bytes) texts n None None (omega (arith, lt, long)) ∙ ap (option_map string_bytes) (empty.none n));
    }

pub put_text-requires : goal.put_text-requires
put_text-requires c =
    let so_far = c.edits.invariant in
    omega (arith, All-last (λ (e : EditedText). e.file < c.args.count) c.pop.new.self.items c.in-Some.edited c.edits.edits.items c.in-Some.ensures.items so_far.within, so_far.long)

pub edits-preserved : goal.edits-preserved
edits-preserved c =
    let so_far = c.edits.invariant in
    let rest : List EditedText = c.pop.new.self.items in
    let edited : EditedText = c.in-Some.edited in
    let texts = c.edits.texts.items in
    let file = edited.file in
    let within : file < c.args.count = All-last (λ (e : EditedText). e.file < c.args.count) rest edited c.edits.edits.items c.in-Some.ensures.items so_far.within in
    let all = ap (map edit_view) c.in-Some.ensures.items ∙ map-append edit_view rest (edited ∷ []) in
    record {
      within = All-front (λ (e : EditedText). e.file < c.args.count) rest edited c.edits.edits.items c.in-Some.ensures.items so_far.within;
      long = ap length c.put_text.ensures ∙ length-set texts file _ ∙ so_far.long;
      left = λ n t lt.
          let views = map (option_map string_bytes) texts in
          let x = unwrap_or (get_or views n None) t in
          ap (λ l. text_after (map edit_view rest) n (unwrap_or (get_or l n None) t)) (ap (map (option_map string_bytes)) c.put_text.ensures ∙ map-set (option_map string_bytes) texts file (Some edited.text))
          ∙ ap (text_after (map edit_view rest) n) (put-text views file (string_bytes edited.text) (omega (arith, within, so_far.long, length-map texts (option_map string_bytes))) n t)
          ∙ sym (text_of_two (map edit_view rest) (edit_view edited ∷ []) n x) ∙ ap (λ es. text_after es n x) (sym all) ∙ so_far.left n t lt;
    }

none : (edits : List EditedText) → length edits ≡ 0 → edits ≡ []
none [] empty = refl
none (e ∷ edits) empty = absurd (omega (arith, empty))

pub returns : goal.returns
returns c =
    let so_far = c.edits.invariant in
    let texts = c.edits.texts.items in
    let left : List EditedText = c.edits.edits.items in
    let empty : left ≡ [] = none left (omega (arith, c.in_default.ensures.cases.0, c.edits.edits.ok)) in
    record {
      long = length-map texts (option_map string_bytes) ∙ so_far.long;
      each = λ n t lt. ap (λ (es : List EditedText). text_after (map edit_view es) n (unwrap_or (get_or (map (option_map string_bytes) texts) n None) t)) (sym empty) ∙ so_far.left n t lt;
    }
