-- Positions and offsets past the end, and inside a character.
use Rattle.std.proofs.Common.{◌≡◌, ℕ, ◌+◌, ◌-◌, ◌<◌, ◌≤◌, cond, List, [], ◌∷◌, ◌++◌, length, get_or, take, drop, refl, ap, sym, ◌∙◌, subst, arith, le-ltb, ⊎_elim, add-zero, zero-add, add_assoc, append-nil, IsUtf8, length-take-le, take-append-drop}
use Rattle.std.specs.List.{concat}
use Rattle.std.specs.Str.{chars, encode_utf8_all, IsCharBoundary}
use Rattle.std.proofs.lemmas.Bool.{cases_Bool, cases_lt, eqb-true, eq-eqb}
use Rattle.std.proofs.lemmas.List.{length-drop, get_or_past, take_all}
use Rattle.std.proofs.lemmas.Str.{IsUtf8-take, IsUtf8-drop, chars-append, chars-encodes, encodes-chars, IsCharBoundary-past_char, IsCharBoundary-before_ascii, encode_ascii, length-encode}
use Rattle.doc_text.specs.declared.encoding.Encoding.{Encoding}
use Rattle.doc_text.specs.declared.encoding.Encoding.TheVariants.{Utf8}
use Rattle.doc_text.specs.declared.position.Position.{Position}
use Rattle.doc_text.specs.Lines.{is_lf_or_cr, ends_line, onto_first, lines, content}
use Rattle.doc_text.specs.Positions.{char_units, units, fitting, offset_of, next_line, in_line, position_in, position_of}
use Rattle.doc_text.specs.Bytes.{lead_len}
use Rattle.doc_text.specs.Walks.{moved}
use Rattle.doc_text.specs.Laws.{IsInsideLineEnd}
use Rattle.doc_text.proofs.Leads.{char_at}
use Rattle.doc_text.proofs.Steps.{lines_ends, lines_goes, some_line, position_before, position_ends, position_return, position_plain}
use Rattle.doc_text.proofs.Trips.{units_bytes, units_some}

units_append : (e : Encoding) (xs ys : List ℕ) → units e (xs ++ ys) ≡ units e xs + units e ys
units_append e [] ys = sym (zero-add (units e ys))
units_append e (c ∷ xs) ys = ap (λ n. char_units e c + n) (units_append e xs ys) ∙ sym (add_assoc (char_units e c) (units e xs) (units e ys))

pub concat_lines : (cs : List ℕ) → concat (lines cs) ≡ cs
concat_lines [] = refl
concat_lines (c ∷ cs) =
    let more = some_line cs in
    ⊎_elim (λ ends. ap concat (lines_ends c cs ends) ∙ ap (λ l. c ∷ l) (concat_lines cs))
    (λ goes. ap concat (lines_goes c cs goes ∙ ap (onto_first c) more.is) ∙ ap (λ ls. c ∷ concat ls) (sym more.is) ∙ ap (λ l. c ∷ l) (concat_lines cs))
    (cases_Bool (ends_line c cs))

whole_size : (text : List ℕ) → IsUtf8 text → units Utf8 (concat (lines (chars text))) ≡ length text
whole_size text utf8 = ap (units Utf8) (concat_lines (chars text)) ∙ units_bytes (chars text) ∙ ap length (encodes-chars text utf8)

-- past the end
fits_all : (n : ℕ) (l : List ℕ) → units Utf8 l ≤ n → fitting Utf8 n l ≡ l
fits_all n [] within = refl
fits_all n (c ∷ l) within =
    ap (λ b. cond b [] (c ∷ fitting Utf8 (n - char_units Utf8 c) l)) (le-ltb n (char_units Utf8 c) (omega arith))
    ∙ ap (λ r. c ∷ r) (fits_all (n - char_units Utf8 c) l (omega arith))

content_within : (l : List ℕ) → units Utf8 (content l) ≤ units Utf8 l
content_within [] = omega arith
content_within (c ∷ l) =
    let less = content_within l in
    ⊎_elim (λ ends. let e = ap (λ b. units Utf8 (cond b [] (c ∷ content l))) ends in omega (arith, e))
    (λ plain. let e = ap (λ b. units Utf8 (cond b [] (c ∷ content l))) plain in omega (arith, e, less))
    (cases_Bool (is_lf_or_cr c))

in_line_past : (e : Encoding) (l : List ℕ) (n m : ℕ) → units Utf8 l ≤ n → units Utf8 l ≤ m → in_line e l n ≡ in_line e l m
in_line_past e l n m first second =
    ap of_run (fits_all n (content l) (omega (arith, content_within l)) ∙ sym (fits_all m (content l) (omega (arith, content_within l))))
  where
    of_run : List ℕ → Position
    of_run run = record { line = 0; character = units e run }

position_past : (e : Encoding) (ls : List (List ℕ)) (n m : ℕ) → units Utf8 (concat ls) ≤ n → units Utf8 (concat ls) ≤ m → position_in e ls n ≡ position_in e ls m
position_past e [] n m first second = refl
position_past e (l ∷ []) n m first second =
    let same = ap (units Utf8) (append-nil l) in in_line_past e l n m (omega (arith, same)) (omega (arith, same))
position_past e (l ∷ k ∷ ls) n m first second =
    let size = units_append Utf8 l (concat (k ∷ ls)) in
    ap (λ b. cond b (in_line e l n) (next_line (position_in e (k ∷ ls) (n - units Utf8 l)))) (le-ltb n (units Utf8 l) (omega (arith, size)))
    ∙ ap next_line (position_past e (k ∷ ls) (n - units Utf8 l) (m - units Utf8 l) (omega (arith, size)) (omega (arith, size)))
    ∙ sym (ap (λ b. cond b (in_line e l m) (next_line (position_in e (k ∷ ls) (m - units Utf8 l)))) (le-ltb m (units Utf8 l) (omega (arith, size))))

pub offsets_past : (e : Encoding) (text : List ℕ) (offset : ℕ) → IsUtf8 text → length text ≤ offset → position_of e text offset ≡ position_of e text (length text)
unfolding position_of
offsets_past e text offset utf8 past =
    let size = whole_size text utf8 in position_past e (lines (chars text)) offset (length text) (omega (arith, size)) (omega (arith, size))

pub positions_past : (e : Encoding) (p : Position) (text : List ℕ) → IsUtf8 text → length (lines (chars text)) ≤ p.line → offset_of e p text ≡ length text
unfolding offset_of
positions_past e p text utf8 past =
    let ls = lines (chars text) in
    ap (λ front. units Utf8 (concat front) + units Utf8 (fitting e p.character (content (get_or ls p.line [])))) (take_all p.line ls past)
    ∙ ap (λ l. units Utf8 (concat ls) + units Utf8 (fitting e p.character (content l))) (get_or_past ls p.line [] past)
    ∙ add-zero (units Utf8 (concat ls)) ∙ whole_size text utf8

-- inside a character
same_step : (e : Encoding) (c : ℕ) (cs : List ℕ) (n m : ℕ) → char_units Utf8 c ≤ n → char_units Utf8 c ≤ m
    → position_in e (lines cs) (n - char_units Utf8 c) ≡ position_in e (lines cs) (m - char_units Utf8 c) → position_in e (lines (c ∷ cs)) n ≡ position_in e (lines (c ∷ cs)) m
same_step e c cs n m first second same =
    ⊎_elim (λ ends. position_ends e n c cs ends first ∙ ap next_line same ∙ sym (position_ends e m c cs ends second))
    (λ goes. ⊎_elim (λ end. position_return e n c cs goes end first ∙ same ∙ sym (position_return e m c cs goes end second))
    (λ plain. position_plain e n c cs plain first ∙ ap (moved 0 (char_units e c)) same ∙ sym (position_plain e m c cs plain second))
    (cases_Bool (is_lf_or_cr c)))
    (cases_Bool (ends_line c cs))

less_first : (a b n : ℕ) → ((a + b) + n) - a ≡ b + n
less_first a b n = omega arith

less_only : (a b : ℕ) → (a + b) - a ≡ b
less_only a b = omega arith

inside_same : (e : Encoding) (xs ys : List ℕ) (c n : ℕ) → n < char_units Utf8 c
    → position_in e (lines (xs ++ c ∷ ys)) (units Utf8 xs + n) ≡ position_in e (lines (xs ++ c ∷ ys)) (units Utf8 xs)
inside_same e [] ys c n inside =
    ap (λ o. position_in e (lines (c ∷ ys)) o) (zero-add n) ∙ position_before e n c ys inside ∙ sym (position_before e 0 c ys (units_some Utf8 c))
inside_same e (x ∷ xs) ys c n inside =
    same_step e x (xs ++ c ∷ ys) ((char_units Utf8 x + units Utf8 xs) + n) (char_units Utf8 x + units Utf8 xs) (omega arith) (omega arith)
    (ap (λ o. position_in e (lines (xs ++ c ∷ ys)) o) (less_first (char_units Utf8 x) (units Utf8 xs) n) ∙ inside_same e xs ys c n inside
    ∙ ap (λ o. position_in e (lines (xs ++ c ∷ ys)) o) (sym (less_only (char_units Utf8 x) (units Utf8 xs))))

back_from : (e : Encoding) (text : List ℕ) (start n : ℕ) (xs ys : List ℕ) → IsUtf8 text → IsCharBoundary text start
    → ((k : ℕ) → start < k → k ≤ start + n → IsCharBoundary text k → ⊥)
    → chars text ≡ xs ++ ys → units Utf8 xs ≡ start → IsUtf8 (drop start text) → encode_utf8_all ys ≡ drop start text
    → position_of e text (start + n) ≡ position_of e text start
unfolding position_of
back_from e text start n xs [] utf8 cut inside all size after is =
    let none = ap length is ∙ length-drop start text in
    position_past e (lines (chars text)) (start + n) start (omega (arith, none, whole_size text utf8, cut.0)) (omega (arith, none, whole_size text utf8, cut.0))
back_from e text start n xs (c ∷ ys) utf8 cut inside all size after is =
    let next = IsCharBoundary-past_char text (encode_utf8_all ys) start c cut.0 after (sym is) in
    let width = length-encode c in
    let some = units_some Utf8 c in
    let short : n < char_units Utf8 c =
    ⊎_elim (λ below. below) (λ past. absurd (inside (start + char_units Utf8 c) (omega (arith, some)) (omega arith) (subst (λ w. IsCharBoundary text (start + w)) (sym width) next))) (cases_lt n (char_units Utf8 c)) in
    subst (λ o. position_in e (lines (chars text)) (o + n) ≡ position_in e (lines (chars text)) o) size
    (subst (λ cs. position_in e (lines cs) (units Utf8 xs + n) ≡ position_in e (lines cs) (units Utf8 xs)) (sym all) (inside_same e xs ys c n short))

pub offsets_back : (e : Encoding) (text : List ℕ) (start n : ℕ) → IsUtf8 text → IsCharBoundary text start
    → ((k : ℕ) → start < k → k ≤ start + n → IsCharBoundary text k → ⊥)
    → position_of e text (start + n) ≡ position_of e text start
offsets_back e text start n utf8 cut inside =
    let before = IsUtf8-take text start utf8 cut in
    let after = IsUtf8-drop text start utf8 cut in
    let xs = before.0 in
    let ys = after.0 in
    let all : chars text ≡ xs ++ ys =
    ap chars (sym (take-append-drop start text)) ∙ chars-append (take start text) (drop start text) before
    ∙ ap (λ l. l ++ chars (drop start text)) (ap chars (sym before.1.1) ∙ chars-encodes xs before.1.0)
    ∙ ap (λ l. xs ++ l) (ap chars (sym after.1.1) ∙ chars-encodes ys after.1.0) in
    back_from e text start n xs ys utf8 cut inside all (units_bytes xs ∙ ap length before.1.1 ∙ length-take-le start text cut.0) after after.1.1

-- between the bytes of a line end
return_same : (e : Encoding) (xs ys : List ℕ) → position_in e (lines (xs ++ 13 ∷ 10 ∷ ys)) (units Utf8 xs + 1) ≡ position_in e (lines (xs ++ 13 ∷ 10 ∷ ys)) (units Utf8 xs)
return_same e [] ys =
    let one : char_units Utf8 13 ≡ 1 = ap length (encode_ascii 13 (omega arith)) in
    position_return e (0 + 1) 13 (10 ∷ ys) refl refl (omega (arith, one))
    ∙ ap (λ n. position_in e (lines (10 ∷ ys)) n) (left (char_units Utf8 13) one)
    ∙ position_before e 0 10 ys (units_some Utf8 10)
    ∙ sym (position_before e 0 13 (10 ∷ ys) (units_some Utf8 13))
  where
    left : (n : ℕ) → n ≡ 1 → (0 + 1) - n ≡ 0
    left n one = omega arith
return_same e (x ∷ xs) ys =
    same_step e x (xs ++ 13 ∷ 10 ∷ ys) ((char_units Utf8 x + units Utf8 xs) + 1) (char_units Utf8 x + units Utf8 xs) (omega arith) (omega arith)
    (ap (λ o. position_in e (lines (xs ++ 13 ∷ 10 ∷ ys)) o) (less_first (char_units Utf8 x) (units Utf8 xs) 1) ∙ return_same e xs ys
    ∙ ap (λ o. position_in e (lines (xs ++ 13 ∷ 10 ∷ ys)) o) (sym (less_only (char_units Utf8 x) (units Utf8 xs))))

within_at : (text : List ℕ) (at b : ℕ) → 0 < b → get_or text at 0 ≡ b → at < length text
within_at text at b some is = ⊎_elim (λ below. below) (λ past. let none = get_or_past text at 0 past in absurd (omega arith)) (cases_lt at (length text))

between : (e : Encoding) (text : List ℕ) (start : ℕ) → IsUtf8 text → get_or text start 0 ≡ 13 → get_or text (start + 1) 0 ≡ 10
    → position_of e text (start + 1) ≡ position_of e text start
unfolding position_of
between e text start utf8 return feed =
    let inside = within_at text start 13 (omega arith) return in
    let cut = IsCharBoundary-before_ascii text start inside (omega (arith, return)) in
    let before = IsUtf8-take text start utf8 cut in
    let after = IsUtf8-drop text start utf8 cut in
    let first = char_at text start inside after in
    let one : lead_len (get_or text start 0) ≡ 1 = ap lead_len return in
    let second = char_at text (start + 1) (within_at text (start + 1) 10 (omega arith) feed) (subst (λ n. IsUtf8 (drop (start + n) text)) one first.utf8) in
    let is_return : first.code ≡ 13 = eqb-true first.code 13 (sym first.lead.return ∙ eq-eqb (get_or text start 0) 13 return) in
    let is_feed : second.code ≡ 10 = eqb-true second.code 10 (sym second.lead.feed ∙ eq-eqb (get_or text (start + 1) 0) 10 feed) in
    let rest = chars (drop (start + 1 + lead_len (get_or text (start + 1) 0)) text) in
    let all : chars text ≡ before.0 ++ 13 ∷ 10 ∷ rest =
    ap chars (sym (take-append-drop start text)) ∙ chars-append (take start text) (drop start text) before
    ∙ ap (λ l. l ++ chars (drop start text)) (ap chars (sym before.1.1) ∙ chars-encodes before.0 before.1.0)
    ∙ ap (λ l. before.0 ++ l) (first.is ∙ ap (λ c. c ∷ chars (drop (start + lead_len (get_or text start 0)) text)) is_return
    ∙ ap (λ n. 13 ∷ chars (drop (start + n) text)) one ∙ ap (λ l. 13 ∷ l) (second.is ∙ ap (λ c. c ∷ rest) is_feed)) in
    let size = units_bytes before.0 ∙ ap length before.1.1 ∙ length-take-le start text cut.0 in
    subst (λ o. position_in e (lines (chars text)) (o + 1) ≡ position_in e (lines (chars text)) o) size
    (subst (λ cs. position_in e (lines cs) (units Utf8 before.0 + 1) ≡ position_in e (lines cs) (units Utf8 before.0)) (sym all) (return_same e before.0 rest))

pub in_line_ends : (e : Encoding) (text : List ℕ) (offset : ℕ) → IsUtf8 text → IsInsideLineEnd text offset → position_of e text offset ≡ position_of e text (offset - 1)
in_line_ends e text offset utf8 inside =
    let next : offset - 1 + 1 ≡ offset = omega (arith, inside.0) in
    ap (position_of e text) (sym next) ∙ between e text (offset - 1) utf8 inside.1 (ap (λ i. get_or text i 0) next ∙ inside.2)
