-- Walks over a text, from the first byte of a character to that of the next.
use Rattle.std.proofs.Common.{◌≡◌, ℕ, ◌+◌, ◌-◌, ◌<◌, ◌≤◌, true, false, List, ◌∷◌, ◌++◌, length, get_or, take, drop, refl, ap, sym, ◌∙◌, subst, arith, add-zero, zero-add, IsUtf8}
use Rattle.std.specs.Prelude.{min, max, Option, Some, None}
use Rattle.std.specs.Str.{chars, IsCharBoundary}
use Rattle.std.proofs.lemmas.Bool.Decides.{nat_tests}
use Rattle.std.proofs.lemmas.List.{length-drop, drop-drop}
use Rattle.std.proofs.lemmas.Str.{IsCharBoundary-from_drop}
use Rattle.doc_text.specs.declared.encoding.Encoding.{Encoding}
use Rattle.doc_text.specs.declared.encoding.Encoding.TheVariants.{Utf16, Utf8, Utf32}
use Rattle.doc_text.specs.declared.position.Position.{Position}
use Rattle.doc_text.specs.declared.position.Range.{Range}
use Rattle.doc_text.specs.declared.cursor.Cursor.{Cursor}
use Rattle.doc_text.specs.Lines.{is_lf_or_cr, ends_line, lines}
use Rattle.doc_text.specs.Positions.{char_units, offset_in, offset_of, position_in, position_of}
use Rattle.doc_text.specs.Edits.{replaced}
use Rattle.doc_text.specs.Bytes.{is_simple, lead_len, lead_units}
use Rattle.doc_text.specs.Walks.{moved, IsCursor}
use Rattle.doc_text.proofs.Leads.{LeadOf, CharAt, char_at}
use Rattle.doc_text.proofs.Ways.{nothing_left, sum_on, offset_nothing, IsOnWay}
use Rattle.doc_text.proofs.Steps.{plain_goes, offset_fits, offset_full, offset_at_end, position_before, position_ends, position_return, position_plain, moved_next, moved_units, moved_none, moved_start}

same_end : (b c : ℕ) → LeadOf b c → is_lf_or_cr b ≡ is_lf_or_cr c
same_end b c lead = rw (lead.feed, lead.return) refl

units_within : (e : Encoding) (b : ℕ) → lead_units e b ≤ lead_len b
units_within Utf16 b = grind (arith, nat_tests)
units_within Utf8 b = omega arith
units_within Utf32 b = omega arith

pub boundary : (text : List ℕ) (at : ℕ) → at ≤ length text → IsUtf8 (drop at text) → IsCharBoundary text at
boundary text at within utf8 = IsCharBoundary-from_drop text at within utf8

-- along a line
pub record IsOnLine (e : Encoding) (text : List ℕ) (character at left : ℕ) : Type 0 where
  pub in_range : at ≤ length text
  pub utf8 : IsUtf8 (drop at text)
  pub onward : offset_in e 0 character (lines (chars text)) ≡ at + offset_in e 0 left (lines (chars (drop at text)))

pub line_first : (e : Encoding) (text : List ℕ) (character : ℕ) → IsUtf8 text → IsOnLine e text character 0 character
line_first e text character utf8 = record { in_range = omega arith; utf8 = utf8; onward = sym (zero-add _) }

pub line_more : (e : Encoding) (text : List ℕ) (character at left len n : ℕ) → at < length text → IsOnLine e text character at left
    → len ≡ lead_len (get_or text at 0) → n ≡ lead_units e (get_or text at 0) → is_lf_or_cr (get_or text at 0) ≡ false → n ≤ left
    → IsOnLine e text character (at + len) (left - n)
line_more e text character at left len n inside on is units plain fits =
    let here = char_at text at inside on.utf8 in
    let after = chars (drop (at + lead_len (get_or text at 0)) text) in
    let wide : n ≡ char_units e here.code = units ∙ here.lead.units e in
    rw (is, wide) (record {
      in_range = here.in_range;
      utf8 = here.utf8;
      onward = sum_on _ at (char_units Utf8 here.code) _ _ _ on.onward
          (ap (λ cs. offset_in e 0 left (lines cs)) here.is
          ∙ offset_fits e left here.code after (sym (same_end _ _ here.lead) ∙ plain) (omega (arith, wide))) (sym here.lead.len);
    })

pub line_ended : (e : Encoding) (text : List ℕ) (character at left : ℕ) → at < length text → IsOnLine e text character at left
    → is_lf_or_cr (get_or text at 0) ≡ true → at ≡ offset_in e 0 character (lines (chars text))
line_ended e text character at left inside on ends =
    let here = char_at text at inside on.utf8 in
    let after = chars (drop (at + lead_len (get_or text at 0)) text) in
    sym (on.onward ∙ ap (λ cs. at + offset_in e 0 left (lines cs)) here.is
    ∙ ap (λ n. at + n) (offset_at_end e left here.code after (sym (same_end _ _ here.lead) ∙ ends)) ∙ add-zero at)

pub line_full : (e : Encoding) (text : List ℕ) (character at left n : ℕ) → at < length text → IsOnLine e text character at left
    → n ≡ lead_units e (get_or text at 0) → is_lf_or_cr (get_or text at 0) ≡ false → left < n → at ≡ offset_in e 0 character (lines (chars text))
line_full e text character at left n inside on units plain full =
    let here = char_at text at inside on.utf8 in
    let after = chars (drop (at + lead_len (get_or text at 0)) text) in
    let wide : n ≡ char_units e here.code = units ∙ here.lead.units e in
    sym (on.onward ∙ ap (λ cs. at + offset_in e 0 left (lines cs)) here.is
    ∙ ap (λ n. at + n) (offset_full e left here.code after (sym (same_end _ _ here.lead) ∙ plain) (omega (arith, wide))) ∙ add-zero at)

pub line_out : (e : Encoding) (text : List ℕ) (character at left : ℕ) → IsOnLine e text character at left → length text ≤ at
    → at ≡ offset_in e 0 character (lines (chars text))
line_out e text character at left on past =
    sym (on.onward ∙ ap (λ cs. at + offset_in e 0 left (lines cs)) (nothing_left text at past)
    ∙ ap (λ n. at + n) (offset_nothing e 0 left) ∙ add-zero at)

-- a cursor
less_none : (n : ℕ) → n ≡ n - 0
less_none n = omega arith

pub cursor_start : (e : Encoding) (text : List ℕ) (c : Cursor) → IsUtf8 text → c.at ≡ 0 → c.position.line ≡ 0 → c.position.character ≡ 0 → IsCursor e text c
unfolding position_of
cursor_start e text c utf8 at line character = record {
  in_range = omega arith;
  utf8 = rw (at) utf8;
  counted = omega arith;
  onward = λ offset past. rw (at, line, character) (sym (moved_start (position_in e (lines (chars text)) offset)) ∙ ap (λ n. moved 0 0 (position_in e (lines (chars text)) n)) (less_none offset));
}

minus : (n a b c : ℕ) → b ≡ c → (n - a) - c ≡ n - (a + b)
minus n a b c same = omega arith

cursor_more : (e : Encoding) (text : List ℕ) (c : Cursor) (line character : ℕ) (here : CharAt text c.at) → IsCursor e text c
    → line + character ≤ c.at + lead_len (get_or text c.at 0)
    → ((offset : ℕ) → char_units Utf8 here.code ≤ offset
    → moved c.position.line c.position.character (position_in e (lines (here.code ∷ chars (drop (c.at + lead_len (get_or text c.at 0)) text))) offset)
    ≡ moved line character (position_in e (lines (chars (drop (c.at + lead_len (get_or text c.at 0)) text))) (offset - char_units Utf8 here.code)))
    → IsCursor e text (record { at = c.at + lead_len (get_or text c.at 0); position = record { line = line; character = character } })
cursor_more e text c line character here cursor counted step = record {
  in_range = here.in_range;
  utf8 = here.utf8;
  counted = counted;
  onward = λ offset past.
      cursor.onward offset (omega arith)
      ∙ ap (λ cs. moved c.position.line c.position.character (position_in e (lines cs) (offset - c.at))) here.is
      ∙ step (offset - c.at) (omega (arith, here.lead.len))
      ∙ ap (λ n. moved line character (position_in e (lines (chars (drop (c.at + lead_len (get_or text c.at 0)) text))) n)) (minus offset c.at _ _ here.lead.len);
}

pub cursor_ends : (e : Encoding) (text : List ℕ) (c : Cursor) (len : ℕ) → c.at < length text → IsCursor e text c → len ≡ lead_len (get_or text c.at 0)
    → ends_line (get_or text c.at 0) (drop (c.at + 1) text) ≡ true
    → IsCursor e text (record { at = c.at + len; position = record { line = c.position.line + 1; character = 0 } })
cursor_ends e text c len inside cursor is ends =
    let here = char_at text c.at inside cursor.utf8 in
    let after = chars (drop (c.at + lead_len (get_or text c.at 0)) text) in
    let counted = cursor.counted in
    rw (is) (cursor_more e text c (c.position.line + 1) 0 here cursor (omega arith)
    (λ offset past. ap (moved c.position.line c.position.character) (position_ends e offset here.code after (sym here.ends ∙ ends) past)
    ∙ moved_next c.position.line c.position.character (position_in e (lines after) (offset - char_units Utf8 here.code))))

pub cursor_return : (e : Encoding) (text : List ℕ) (c : Cursor) (len : ℕ) → c.at < length text → IsCursor e text c → len ≡ lead_len (get_or text c.at 0)
    → ends_line (get_or text c.at 0) (drop (c.at + 1) text) ≡ false → is_lf_or_cr (get_or text c.at 0) ≡ true
    → IsCursor e text (record { at = c.at + len; position = c.position })
cursor_return e text c len inside cursor is goes ends =
    let here = char_at text c.at inside cursor.utf8 in
    let after = chars (drop (c.at + lead_len (get_or text c.at 0)) text) in
    let counted = cursor.counted in
    rw (is) (cursor_more e text c c.position.line c.position.character here cursor (omega arith)
    (λ offset past. ap (moved c.position.line c.position.character) (position_return e offset here.code after (sym here.ends ∙ goes) (sym (same_end _ _ here.lead) ∙ ends) past)))

pub cursor_plain : (e : Encoding) (text : List ℕ) (c : Cursor) (len n : ℕ) → c.at < length text → IsCursor e text c → len ≡ lead_len (get_or text c.at 0)
    → n ≡ lead_units e (get_or text c.at 0) → is_lf_or_cr (get_or text c.at 0) ≡ false
    → IsCursor e text (record { at = c.at + len; position = record { line = c.position.line; character = c.position.character + n } })
cursor_plain e text c len n inside cursor is units plain =
    let here = char_at text c.at inside cursor.utf8 in
    let after = chars (drop (c.at + lead_len (get_or text c.at 0)) text) in
    let counted = cursor.counted in
    let within = units_within e (get_or text c.at 0) in
    rw (is, units) (cursor_more e text c c.position.line (c.position.character + lead_units e (get_or text c.at 0)) here cursor (omega arith)
    (λ offset past. ap (moved c.position.line c.position.character) (position_plain e offset here.code after (sym (same_end _ _ here.lead) ∙ plain) past)
    ∙ moved_units c.position.line c.position.character (char_units e here.code) (position_in e (lines after) (offset - char_units Utf8 here.code))
    ∙ ap (λ n. moved c.position.line (c.position.character + n) (position_in e (lines after) (offset - char_units Utf8 here.code))) (sym (here.lead.units e))))

pub cursor_before : (e : Encoding) (text : List ℕ) (c : Cursor) (offset len : ℕ) → c.at < length text → IsCursor e text c → c.at ≤ offset
    → len ≡ lead_len (get_or text c.at 0) → offset - c.at < len → c.position ≡ position_of e text offset
cursor_before e text c offset len inside cursor before is past =
    let here = char_at text c.at inside cursor.utf8 in
    let after = chars (drop (c.at + lead_len (get_or text c.at 0)) text) in
    sym (cursor.onward offset before
    ∙ ap (λ cs. moved c.position.line c.position.character (position_in e (lines cs) (offset - c.at))) here.is
    ∙ ap (moved c.position.line c.position.character) (position_before e (offset - c.at) here.code after (omega (arith, is, here.lead.len)))
    ∙ moved_none c.position.line c.position.character)

pub cursor_out : (e : Encoding) (text : List ℕ) (c : Cursor) (offset : ℕ) → IsCursor e text c → c.at ≤ offset → length text ≤ c.at
    → c.position ≡ position_of e text offset
cursor_out e text c offset cursor before past =
    sym (cursor.onward offset before
    ∙ ap (λ cs. moved c.position.line c.position.character (position_in e (lines cs) (offset - c.at))) (nothing_left text c.at past)
    ∙ moved_none c.position.line c.position.character)

-- an offset, from the start of its line on
pub offset_from : (e : Encoding) (p : Position) (text rest : List ℕ) (start run : ℕ) → IsOnWay text p.line start 0
    → rest ≡ drop start text → run ≡ offset_in e 0 p.character (lines (chars rest)) → start + run ≡ offset_of e p text
unfolding offset_of
offset_from e p text rest start run way is runs =
    sym (way.onward e p.character ∙ ap (λ n. start + n) (sym (runs ∙ ap (λ bs. offset_in e 0 p.character (lines (chars bs))) is)))

pub boundary_from : (text rest : List ℕ) (start run : ℕ) → start ≤ length text → rest ≡ drop start text → run ≤ length rest → IsUtf8 (drop run rest)
    → IsCharBoundary text (start + run)
boundary_from text rest start run within is inside utf8 =
    let size = ap length is ∙ length-drop start text in
    boundary text (start + run) (omega (arith, size))
    (subst IsUtf8 (ap (drop run) is ∙ drop-drop run start text) utf8)

-- the bytes of a change
pub replaced_all : (e : Encoding) (r : Option Range) (text ys : List ℕ) → r ≡ None → ys ≡ replaced e r text ys
unfolding replaced
replaced_all e r text ys none = rw (none) refl

pub replaced_range : (e : Encoding) (r : Option Range) (range : Range) (text ys new : List ℕ) (a b low high : ℕ) → r ≡ Some range
    → a ≡ offset_of e range.start text → b ≡ offset_of e range.end text → low ≡ min a b → high ≡ max a b
    → new ≡ take low text ++ ys ++ drop high text → new ≡ replaced e r text ys
unfolding replaced
replaced_range e r range text ys new a b low high some start end least most is = rw (some, ← start, ← end, ← least, ← most) is

-- simple bytes
pub simple_len : (b : ℕ) → is_simple b ≡ true → 1 ≡ lead_len b
simple_len b simple = grind (arith, nat_tests)

pub simple_units : (e : Encoding) (b : ℕ) → is_simple b ≡ true → 1 ≡ lead_units e b
simple_units Utf16 b simple = grind (arith, nat_tests)
simple_units Utf8 b simple = grind (arith, nat_tests)
simple_units Utf32 b simple = refl

pub simple_plain : (b : ℕ) → is_simple b ≡ true → is_lf_or_cr b ≡ false
simple_plain b simple = grind (arith, nat_tests)

pub simple_goes : (b : ℕ) (bs : List ℕ) → is_simple b ≡ true → ends_line b bs ≡ false
simple_goes b bs simple = plain_goes b bs (simple_plain b simple)

pub cursor_simple : (e : Encoding) (text : List ℕ) (c : Cursor) → c.at < length text → IsCursor e text c → is_simple (get_or text c.at 0) ≡ true
    → IsCursor e text (record { at = c.at + 1; position = record { line = c.position.line; character = c.position.character + 1 } })
cursor_simple e text c inside cursor simple =
    let b = get_or text c.at 0 in
    cursor_plain e text c 1 1 inside cursor (simple_len b simple) (simple_units e b simple) (simple_plain b simple)

pub line_simple : (e : Encoding) (text : List ℕ) (character at left : ℕ) → at < length text → 0 < left → IsOnLine e text character at left
    → is_simple (get_or text at 0) ≡ true → IsOnLine e text character (at + 1) (left - 1)
line_simple e text character at left inside some on simple =
    let b = get_or text at 0 in
    line_more e text character at left 1 1 inside on (simple_len b simple) (simple_units e b simple) (simple_plain b simple) some
