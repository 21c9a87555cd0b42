-- From an offset to its position, and back.
use Rattle.std.proofs.Common.{◌≡◌, ℕ, suc, zero, ◌+◌, ◌-◌, ◌<◌, ◌≤◌, Bool, true, false, cond, List, [], ◌∷◌, ◌++◌, length, get_or, take, drop, refl, ap, sym, ◌∙◌, subst, arith, ⊎_elim, add-zero, zero-add, one-add, IsUtf8, length-append, length-take-le, get_or-take, take-append-drop}
use Rattle.std.specs.Prelude.{◌==◌, ◌&&◌, ◌||◌, not}
use Rattle.std.specs.Char.{encode_utf8}
use Rattle.std.specs.Str.{chars, encode_utf8_all, IsCharBoundary}
use Rattle.std.proofs.Math.Seq.{get_or-append_seam}
use Rattle.std.proofs.lemmas.Bool.{cases_Bool, ne_eqb, eq-eqb, eqb-true}
use Rattle.std.proofs.lemmas.Bool.Decides.{nat_tests}
use Rattle.std.proofs.lemmas.List.{get_or-drop}
use Rattle.std.proofs.lemmas.Str.{IsUtf8-take, IsUtf8-drop, chars-append, chars-encodes, encodes-append, encode_ascii}
use Rattle.doc_text.specs.declared.encoding.Encoding.{Encoding}
use Rattle.doc_text.specs.declared.encoding.Encoding.TheVariants.{Utf16, Utf8, Utf32}
use Rattle.doc_text.specs.declared.position.Position.{Position}
use Rattle.doc_text.specs.Lines.{is_lf_or_cr, ends_line, lines}
use Rattle.doc_text.specs.Positions.{char_units, units, offset_in, offset_of, next_line, position_in, position_of}
use Rattle.doc_text.specs.Bytes.{lead_units}
use Rattle.doc_text.specs.Walks.{moved}
use Rattle.doc_text.specs.Laws.{IsInsideLineEnd}
use Rattle.doc_text.proofs.Leads.{lead, first_feed}
use Rattle.doc_text.proofs.Steps.{offset_ends, offset_goes, offset_fits, offset_full, offset_at_end, position_before, position_ends, position_return, position_plain, position_eq, first_is_feed, feed_ends}

abbrev offset_at : Encoding → Position → List ℕ → ℕ
offset_at e p cs = offset_in e p.line p.character (lines cs)

lead_some : (e : Encoding) (b : ℕ) → 0 < lead_units e b
lead_some Utf16 b = grind (arith, nat_tests)
lead_some Utf8 b = omega arith
lead_some Utf32 b = omega arith

pub units_some : (e : Encoding) (c : ℕ) → 0 < char_units e c
units_some e c = let first = lead c in omega (arith, lead_some e first.byte, first.lead.units e)

pub start_position : (e : Encoding) (cs : List ℕ) → (let q : Position = record { line = 0; character = 0 } in position_in e (lines cs) 0 ≡ q)
start_position e [] = refl
start_position e (c ∷ cs) = position_before e 0 c cs (units_some Utf8 c)

pub start_offset : (e : Encoding) (cs : List ℕ) → offset_in e 0 0 (lines cs) ≡ 0
start_offset e [] = refl
start_offset e (c ∷ cs) = ⊎_elim (offset_at_end e 0 c cs) (λ plain. offset_full e 0 c cs plain (units_some e c)) (cases_Bool (is_lf_or_cr c))

-- one character more in front
past_end : (e : Encoding) (c : ℕ) (cs : List ℕ) (q : Position) → ends_line c cs ≡ true → offset_at e (next_line q) (c ∷ cs) ≡ char_units Utf8 c + offset_at e q cs
past_end e c cs q ends = ap (λ n. offset_in e n q.character (lines (c ∷ cs))) (one-add q.line) ∙ offset_ends e q.line q.character c cs ends

past_return : (e : Encoding) (c : ℕ) (cs : List ℕ) (q : Position) → ends_line c cs ≡ false → offset_at e (next_line q) (c ∷ cs) ≡ char_units Utf8 c + offset_at e (next_line q) cs
past_return e c cs q goes =
    ap (λ n. offset_in e n q.character (lines (c ∷ cs))) (one-add q.line) ∙ offset_goes e q.line q.character c cs goes
    ∙ ap (λ n. char_units Utf8 c + offset_in e n q.character (lines cs)) (sym (one-add q.line))

less_same : (a b : ℕ) → (a + b) - a ≡ b
less_same a b = omega arith

past_plain_at : (e : Encoding) (c : ℕ) (cs : List ℕ) (line character : ℕ) → is_lf_or_cr c ≡ false → ends_line c cs ≡ false
    → (let q : Position = record { line = line; character = character } in offset_at e (moved 0 (char_units e c) q) (c ∷ cs) ≡ char_units Utf8 c + offset_at e q cs)
past_plain_at e c cs zero character plain goes =
    offset_fits e (char_units e c + character) c cs plain (omega arith)
    ∙ ap (λ n. char_units Utf8 c + offset_in e 0 n (lines cs)) (less_same (char_units e c) character)
past_plain_at e c cs (suc line) character plain goes =
    ap (λ p. offset_at e p (c ∷ cs)) (position_eq _ _ (suc line) character (zero-add (suc line)) (ap (λ b. cond b (char_units e c + character) character) (ne_eqb (suc line) 0 (λ same. omega arith))))
    ∙ offset_goes e line character c cs goes

-- no line feed follows a carriage return at the end
abbrev EndsApart : List ℕ → List ℕ → Type 0
EndsApart [] ys = Unit {0}
EndsApart (c ∷ []) ys = c ≡ 13 → get_or ys 0 0 ≡ 10 → ⊥
EndsApart (c ∷ d ∷ xs) ys = EndsApart (d ∷ xs) ys

apart_tail : (c : ℕ) (xs ys : List ℕ) → EndsApart (c ∷ xs) ys → EndsApart xs ys
apart_tail c [] ys apart = tt
apart_tail c (d ∷ xs) ys apart = apart

trip_end : (e : Encoding) (c : ℕ) (cs : List ℕ) (n : ℕ) → ends_line c cs ≡ true → offset_at e (position_in e (lines cs) n) cs ≡ n
    → offset_at e (position_in e (lines (c ∷ cs)) (char_units Utf8 c + n)) (c ∷ cs) ≡ char_units Utf8 c + n
trip_end e c cs n ends back =
    ap (λ p. offset_at e p (c ∷ cs)) (position_ends e (char_units Utf8 c + n) c cs ends (omega arith) ∙ ap (λ o. next_line (position_in e (lines cs) o)) (less_same (char_units Utf8 c) n))
    ∙ past_end e c cs (position_in e (lines cs) n) ends
    ∙ ap (λ o. char_units Utf8 c + o) back

trip_return : (e : Encoding) (c d : ℕ) (cs : List ℕ) (n : ℕ) → ends_line c (d ∷ cs) ≡ false → is_lf_or_cr c ≡ true → (d == 10) ≡ true → char_units Utf8 d ≤ n
    → offset_at e (position_in e (lines (d ∷ cs)) n) (d ∷ cs) ≡ n
    → offset_at e (position_in e (lines (c ∷ d ∷ cs)) (char_units Utf8 c + n)) (c ∷ d ∷ cs) ≡ char_units Utf8 c + n
trip_return e c d cs n goes end feed past back =
    let q = position_in e (lines cs) (n - char_units Utf8 d) in
    let there : position_in e (lines (d ∷ cs)) n ≡ next_line q = position_ends e n d cs (feed_ends d cs feed) past in
    ap (λ p. offset_at e p (c ∷ d ∷ cs))
    (position_return e (char_units Utf8 c + n) c (d ∷ cs) goes end (omega arith) ∙ ap (λ o. position_in e (lines (d ∷ cs)) o) (less_same (char_units Utf8 c) n) ∙ there)
    ∙ past_return e c (d ∷ cs) q goes
    ∙ ap (λ p. char_units Utf8 c + offset_at e p (d ∷ cs)) (sym there)
    ∙ ap (λ o. char_units Utf8 c + o) back

trip_plain : (e : Encoding) (c : ℕ) (cs : List ℕ) (n : ℕ) → is_lf_or_cr c ≡ false → ends_line c cs ≡ false → offset_at e (position_in e (lines cs) n) cs ≡ n
    → offset_at e (position_in e (lines (c ∷ cs)) (char_units Utf8 c + n)) (c ∷ cs) ≡ char_units Utf8 c + n
trip_plain e c cs n plain goes back =
    let q = position_in e (lines cs) n in
    ap (λ p. offset_at e p (c ∷ cs))
    (position_plain e (char_units Utf8 c + n) c cs plain (omega arith) ∙ ap (λ o. moved 0 (char_units e c) (position_in e (lines cs) o)) (less_same (char_units Utf8 c) n))
    ∙ past_plain_at e c cs q.line q.character plain goes
    ∙ ap (λ o. char_units Utf8 c + o) back

trip_goes : (e : Encoding) (c : ℕ) (xs ys : List ℕ) → EndsApart (c ∷ xs) ys → ends_line c (xs ++ ys) ≡ false → is_lf_or_cr c ≡ true
    → offset_at e (position_in e (lines (xs ++ ys)) (units Utf8 xs)) (xs ++ ys) ≡ units Utf8 xs
    → offset_at e (position_in e (lines (c ∷ (xs ++ ys))) (char_units Utf8 c + units Utf8 xs)) (c ∷ (xs ++ ys)) ≡ char_units Utf8 c + units Utf8 xs
trip_goes e c [] ys apart goes end back =
    let feed = first_is_feed (c == 10) (c == 13) (get_or ys 0 0 == 10) goes end in
    absurd (apart (eqb-true c 13 (return (c == 10) (c == 13) (get_or ys 0 0 == 10) goes end)) (eqb-true (get_or ys 0 0) 10 feed))
  where
    return : (a b x : Bool) → (a || (b && not x)) ≡ false → (a || b) ≡ true → b ≡ true
    return true b x goes end = cc (goes)
    return false b x goes end = end
trip_goes e c (d ∷ xs) ys apart goes end back =
    trip_return e c d (xs ++ ys) (units Utf8 (d ∷ xs)) goes end (first_is_feed (c == 10) (c == 13) (d == 10) goes end) (omega arith) back

trip : (e : Encoding) (xs ys : List ℕ) → EndsApart xs ys → offset_at e (position_in e (lines (xs ++ ys)) (units Utf8 xs)) (xs ++ ys) ≡ units Utf8 xs
trip e [] ys apart = ap (λ p. offset_at e p ys) (start_position e ys) ∙ start_offset e ys
trip e (c ∷ xs) ys apart =
    let back = trip e xs ys (apart_tail c xs ys apart) in
    ⊎_elim (λ ends. trip_end e c (xs ++ ys) (units Utf8 xs) ends back)
    (λ goes. ⊎_elim (λ end. trip_goes e c xs ys apart goes end back) (λ plain. trip_plain e c (xs ++ ys) (units Utf8 xs) plain goes back) (cases_Bool (is_lf_or_cr c)))
    (cases_Bool (ends_line c (xs ++ ys)))

-- as bytes
pub units_bytes : (cs : List ℕ) → units Utf8 cs ≡ length (encode_utf8_all cs)
units_bytes [] = refl
units_bytes (c ∷ cs) = ap (λ n. char_units Utf8 c + n) (units_bytes cs) ∙ sym (length-append (encode_utf8 c) (encode_utf8_all cs))

apart_from : (xs ys : List ℕ) → ((front : List ℕ) → xs ≡ front ++ 13 ∷ [] → get_or ys 0 0 ≡ 10 → ⊥) → EndsApart xs ys
apart_from [] ys not_both = tt
apart_from (c ∷ []) ys not_both = λ return feed. not_both [] (ap (λ x. x ∷ []) return) feed
apart_from (c ∷ d ∷ xs) ys not_both = apart_from (d ∷ xs) ys (λ front is feed. not_both (c ∷ front) (ap (λ l. c ∷ l) is) feed)

inside_from : (text : List ℕ) (offset : ℕ) (xs ys front : List ℕ) → offset ≤ length text → encode_utf8_all xs ≡ take offset text → encode_utf8_all ys ≡ drop offset text
    → xs ≡ front ++ 13 ∷ [] → get_or ys 0 0 ≡ 10 → IsInsideLineEnd text offset
inside_from text offset xs ys front within before after is feed =
    let bytes : take offset text ≡ encode_utf8_all front ++ 13 ∷ [] =
    sym before ∙ ap encode_utf8_all is ∙ encodes-append front (13 ∷ []) ∙ ap (λ l. encode_utf8_all front ++ l) (ap (λ l. l ++ []) (encode_ascii 13 (omega arith))) in
    let size = sym (length-take-le offset text within) ∙ ap length bytes ∙ length-append (encode_utf8_all front) (13 ∷ []) in
    let place : offset - 1 ≡ length (encode_utf8_all front) = omega (arith, size) in (
      omega (arith, size),
      sym (get_or-take offset text (offset - 1) 0 (omega (arith, size))) ∙ ap (λ l. get_or l (offset - 1) 0) bytes
          ∙ ap (λ n. get_or (encode_utf8_all front ++ 13 ∷ []) n 0) place ∙ get_or-append_seam (encode_utf8_all front) 13 [] 0,
      ap (λ i. get_or text i 0) (sym (add-zero offset)) ∙ sym (get_or-drop offset text 0 0) ∙ ap (λ l. get_or l 0 0) (sym after)
          ∙ eqb-true (get_or (encode_utf8_all ys) 0 0) 10 (first_feed ys ∙ eq-eqb (get_or ys 0 0) 10 feed),
    )

pub positions_come_back : (e : Encoding) (text : List ℕ) (offset : ℕ) → IsUtf8 text → IsCharBoundary text offset → (IsInsideLineEnd text offset → ⊥)
    → offset_of e (position_of e text offset) text ≡ offset
unfolding offset_of position_of
positions_come_back e text offset utf8 cut outside =
    let before = IsUtf8-take text offset utf8 cut in
    let after = IsUtf8-drop text offset utf8 cut in
    let xs = before.0 in
    let ys = after.0 in
    let all : chars text ≡ xs ++ ys =
    ap chars (sym (take-append-drop offset text)) ∙ chars-append (take offset text) (drop offset text) before
    ∙ ap (λ l. l ++ chars (drop offset text)) (ap chars (sym before.1.1) ∙ chars-encodes xs before.1.0)
    ∙ ap (λ l. xs ++ l) (ap chars (sym after.1.1) ∙ chars-encodes ys after.1.0) in
    let size : units Utf8 xs ≡ offset = units_bytes xs ∙ ap length before.1.1 ∙ length-take-le offset text cut.0 in
    let apart = apart_from xs ys (λ front is feed. outside (inside_from text offset xs ys front cut.0 before.1.1 after.1.1 is feed)) in
    let back = trip e xs ys apart in
    subst (λ n. offset_at e (position_in e (lines (chars text)) n) (chars text) ≡ n) size
    (subst (λ cs. offset_at e (position_in e (lines cs) (units Utf8 xs)) cs ≡ units Utf8 xs) (sym all) back)
