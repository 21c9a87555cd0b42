-- The start of a line, from the front of a text on.
use Rattle.std.proofs.Common.{◌≡◌, ℕ, suc, zero, ◌+◌, ◌<◌, ◌≤◌, Bool, true, false, List, [], ◌∷◌, ◌++◌, length, get_or, drop, refl, ap, sym, ◌∙◌, subst, arith, add-zero, zero-add, IsUtf8, ⊎_elim, inl, inr, one-add, add-one, drop-cons}
use Rattle.std.specs.Prelude.{◌==◌, ◌||◌, ◌⊎◌}
use Rattle.std.specs.Str.{chars}
use Rattle.std.proofs.Math.ListN.{drop_of_length-le}
use Rattle.std.proofs.lemmas.Bool.{cases_Bool, cases_lt, eqb-true}
use Rattle.std.proofs.lemmas.List.{get_or-drop, drop-drop}
use Rattle.std.proofs.lemmas.Str.{chars-nil}
use Rattle.doc_text.specs.declared.encoding.Encoding.{Encoding}
use Rattle.doc_text.specs.declared.encoding.Encoding.TheVariants.{Utf8}
use Rattle.doc_text.specs.Lines.{is_lf_or_cr, ends_line, lines}
use Rattle.doc_text.specs.Positions.{char_units, offset_in}
use Rattle.doc_text.specs.Bytes.{lead_len, line_offset}
use Rattle.doc_text.proofs.Leads.{lead, CharAt, char_at}
use Rattle.doc_text.proofs.Steps.{ends_is_end, offset_ends, offset_goes}
use Rattle.doc_text.proofs.LineOffsets.{line_offset-none, line_offset-nil, line_offset-ends, line_offset-goes, line_offset-plain}

pub nothing_left : (text : List ℕ) (at : ℕ) → length text ≤ at → chars (drop at text) ≡ []
nothing_left text at past = ap chars (drop_of_length-le text past) ∙ chars-nil

-- A walk to the start of a line is at an offset, with so many lines left: each position in that line is found
-- from there on, so many lines further.
pub record IsOnWay (text : List ℕ) (line at left : ℕ) : Type 0 where
  pub in_range : at ≤ length text
  pub utf8 : IsUtf8 (drop at text)
  pub onward : (e : Encoding) (character : ℕ) →
      offset_in e line character (lines (chars text)) ≡ at + offset_in e left character (lines (chars (drop at text)))

pub way_start : (text : List ℕ) (line : ℕ) → IsUtf8 text → IsOnWay text line 0 line
way_start text line utf8 = record { in_range = omega arith; utf8 = utf8; onward = λ e character. sym (zero-add _) }

pub sum_on : (n a b c : ℕ) (x y : ℕ) → n ≡ a + x → x ≡ b + y → b ≡ c → n ≡ (a + c) + y
sum_on n a b c x y first second third = omega arith

pub way_ends : (text : List ℕ) (line at left len : ℕ) → at < length text → IsOnWay text line at (suc left) → len ≡ lead_len (get_or text at 0)
    → ends_line (get_or text at 0) (drop (at + 1) text) ≡ true → IsOnWay text line (at + len) left
way_ends text line at left len inside way is ends =
    let here = char_at text at inside way.utf8 in
    let after = chars (drop (at + lead_len (get_or text at 0)) text) in
    rw (is) (record {
      in_range = here.in_range;
      utf8 = here.utf8;
      onward = λ e character. sum_on _ at (char_units Utf8 here.code) _ _ _ (way.onward e character)
          (ap (λ cs. offset_in e (suc left) character (lines cs)) here.is ∙ offset_ends e left character here.code after (sym here.ends ∙ ends)) (sym here.lead.len);
    })

pub way_goes : (text : List ℕ) (line at left len : ℕ) → at < length text → IsOnWay text line at (suc left) → len ≡ lead_len (get_or text at 0)
    → ends_line (get_or text at 0) (drop (at + 1) text) ≡ false → IsOnWay text line (at + len) (suc left)
way_goes text line at left len inside way is goes =
    let here = char_at text at inside way.utf8 in
    let after = chars (drop (at + lead_len (get_or text at 0)) text) in
    rw (is) (record {
      in_range = here.in_range;
      utf8 = here.utf8;
      onward = λ e character. sum_on _ at (char_units Utf8 here.code) _ _ _ (way.onward e character)
          (ap (λ cs. offset_in e (suc left) character (lines cs)) here.is ∙ offset_goes e left character here.code after (sym here.ends ∙ goes)) (sym here.lead.len);
    })

pub offset_nothing : (e : Encoding) (left character : ℕ) → offset_in e left character (lines []) ≡ 0
offset_nothing e zero character = refl
offset_nothing e (suc zero) character = refl
offset_nothing e (suc (suc left)) character = refl

pub way_out : (text : List ℕ) (line at left : ℕ) → IsOnWay text line at left → length text ≤ at → IsOnWay text line at 0
way_out text line at left way past = record {
  in_range = way.in_range;
  utf8 = way.utf8;
  onward = λ e character. way.onward e character
      ∙ ap (λ cs. at + offset_in e left character (lines cs)) (nothing_left text at past)
      ∙ ap (λ n. at + n) (offset_nothing e left character ∙ sym (offset_nothing e 0 character))
      ∙ sym (ap (λ cs. at + offset_in e 0 character (lines cs)) (nothing_left text at past));
}

-- the walk, over all lines that are left
feed_or_return : (b : ℕ) → is_lf_or_cr b ≡ true → (b ≡ 10) ⊎ (b ≡ 13)
feed_or_return b ends = either (b == 10) (b == 13) ends (eqb-true b 10) (eqb-true b 13)
  where
    either : (x y : Bool) → (x || y) ≡ true → (x ≡ true → b ≡ 10) → (y ≡ true → b ≡ 13) → (b ≡ 10) ⊎ (b ≡ 13)
    either true y both feed return = inl (feed refl)
    either false y both feed return = inr (return both)

end_len : (b : ℕ) → is_lf_or_cr b ≡ true → lead_len b ≡ 1
end_len b ends = ⊎_elim (λ feed. ap lead_len feed) (λ return. ap lead_len return) (feed_or_return b ends)

past_char : (text : List ℕ) (at left : ℕ) (here : CharAt text at) → ends_line (get_or text at 0) (drop (at + 1) text) ≡ false
    → line_offset (suc left) (drop at text) ≡ lead_len (get_or text at 0) + line_offset (suc left) (drop (at + lead_len (get_or text at 0)) text)
past_char text at left here goes =
    let first = lead here.code in
    let after = drop (at + lead_len (get_or text at 0)) text in
    let bytes : drop at text ≡ first.byte ∷ (first.others ++ after) = here.bytes ∙ ap (λ l. l ++ after) first.is in
    let byte : get_or text at 0 ≡ first.byte = ap (λ i. get_or text i 0) (sym (add-zero at)) ∙ sym (get_or-drop at text 0 0) ∙ ap (λ l. get_or l 0 0) bytes in
    let others : drop (at + 1) text ≡ first.others ++ after = sym (drop-drop 1 at text) ∙ ap (drop 1) bytes in
    let len : lead_len (get_or text at 0) ≡ 1 + length first.others = here.lead.len ∙ ap length first.is ∙ sym (one-add (length first.others)) in
    let goes_on : ends_line first.byte (first.others ++ after) ≡ false = ap (λ b. ends_line b (first.others ++ after)) (sym byte) ∙ ap (ends_line (get_or text at 0)) (sym others) ∙ goes in
    let one = ap (line_offset (suc left)) bytes ∙ line_offset-goes left first.byte (first.others ++ after) goes_on in
    let more = line_offset-plain left first.others after first.plain in
    omega (arith, one, more, len)

past_end : (text : List ℕ) (at left : ℕ) → at < length text → ends_line (get_or text at 0) (drop (at + 1) text) ≡ true
    → line_offset (suc left) (drop at text) ≡ 1 + line_offset left (drop (at + 1) text)
past_end text at left inside ends =
    let is : drop at text ≡ get_or text at 0 ∷ drop (at + 1) text = rw (add-one) (drop-cons text at 0 inside) in
    ap (line_offset (suc left)) is ∙ line_offset-ends left (get_or text at 0) (drop (at + 1) text) ends

way_done : (text : List ℕ) (line at left : ℕ) → IsOnWay text line at left → length text ≤ at → IsOnWay text line (at + line_offset left (drop at text)) 0
way_done text line at left way past =
    let none : line_offset left (drop at text) ≡ 0 = ap (line_offset left) (drop_of_length-le text past) ∙ line_offset-nil left in
    subst (λ n. IsOnWay text line (at + n) 0) (sym none) (subst (λ n. IsOnWay text line n 0) (sym (add-zero at)) (way_out text line at left way past))

pub way_on : (fuel : ℕ) (text : List ℕ) (line at left : ℕ) → length text ≤ at + fuel → IsOnWay text line at left → IsOnWay text line (at + line_offset left (drop at text)) 0
way_on fuel text line at zero within way =
    subst (λ n. IsOnWay text line n 0) (sym (add-zero at) ∙ ap (λ n. at + n) (sym (line_offset-none (drop at text)))) way
way_on zero text line at (suc left) within way = way_done text line at (suc left) way (omega arith)
way_on (suc fuel) text line at (suc left) within way =
    ⊎_elim
    (λ inside.
    let here = char_at text at inside way.utf8 in
    let b = get_or text at 0 in
    ⊎_elim
    (λ ends.
    let one = end_len b (ends_is_end b (drop (at + 1) text) ends) in
    subst (λ n. IsOnWay text line n 0) (past_one at _ _ (past_end text at left inside ends))
    (way_on fuel text line (at + 1) left (omega arith) (way_ends text line at left 1 inside way (sym one) ends)))
    (λ goes.
    subst (λ n. IsOnWay text line n 0) (past_some at _ _ _ (past_char text at left here goes))
    (way_on fuel text line (at + lead_len b) (suc left) (omega arith) (way_goes text line at left (lead_len b) inside way refl goes)))
    (cases_Bool (ends_line b (drop (at + 1) text))))
    (λ past. way_done text line at (suc left) way past)
    (cases_lt at (length text))
  where
    past_one : (at whole rest : ℕ) → whole ≡ 1 + rest → (at + 1) + rest ≡ at + whole
    past_one at whole rest is = omega arith

    past_some : (at whole len rest : ℕ) → whole ≡ len + rest → (at + len) + rest ≡ at + whole
    past_some at whole len rest is = omega arith

pub line_way : (text : List ℕ) (line start : ℕ) → IsUtf8 text → start ≡ line_offset line text → IsOnWay text line start 0
line_way text line start utf8 is =
    subst (λ n. IsOnWay text line n 0) (zero-add _ ∙ sym is) (way_on (length text) text line 0 line (omega arith) (way_start text line utf8))

pub way_rest : (text rest : List ℕ) (line start : ℕ) → IsOnWay text line start 0 → rest ≡ drop start text → IsUtf8 rest
way_rest text rest line start way is = subst IsUtf8 (sym is) way.utf8
