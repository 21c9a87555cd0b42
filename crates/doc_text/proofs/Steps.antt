-- Positions and offsets, one character at the front of a text after the other.
use Rattle.std.proofs.Common.{◌≡◌, ℕ, suc, ◌+◌, ◌-◌, ◌<◌, ◌≤◌, Bool, true, false, cond, List, [], ◌∷◌, ◌++◌, get_or, take, refl, ap, sym, ◌∙◌, arith, lt-ltb, le-ltb, ⊎_elim, add-zero, zero-add, add_assoc}
use Rattle.std.specs.Prelude.{◌==◌, ◌&&◌, ◌||◌, not}
use Rattle.std.specs.List.{concat}
use Rattle.std.proofs.lemmas.Bool.{cases_lt, cases_Bool, ne_eqb}
use Rattle.doc_text.specs.declared.encoding.Encoding.{Encoding}
use Rattle.doc_text.specs.declared.encoding.Encoding.TheVariants.{Utf8}
use Rattle.doc_text.specs.declared.position.Position.{Position}
use Rattle.doc_text.specs.Lines.{is_lf_or_cr, ends_line, onto_first, lines, content}
use Rattle.doc_text.specs.Positions.{char_units, units, fitting, offset_in, next_line, in_line, position_in}
use Rattle.doc_text.specs.Walks.{moved}

-- lines
or_and : (a b x : Bool) → (a || (b && x)) ≡ true → (a || b) ≡ true
or_and true b x ends = refl
or_and false true x ends = refl
or_and false false x ends = ends

pub ends_is_end : (c : ℕ) (cs : List ℕ) → ends_line c cs ≡ true → is_lf_or_cr c ≡ true
ends_is_end c cs ends = or_and (c == 10) (c == 13) (not (get_or cs 0 0 == 10)) ends

plain_and : (a b x : Bool) → (a || b) ≡ false → (a || (b && x)) ≡ false
plain_and true b x plain = plain
plain_and false true x plain = cc (plain)
plain_and false false x plain = refl

pub plain_goes : (c : ℕ) (cs : List ℕ) → is_lf_or_cr c ≡ false → ends_line c cs ≡ false
plain_goes c cs plain = plain_and (c == 10) (c == 13) (not (get_or cs 0 0 == 10)) plain

pub lines_ends : (c : ℕ) (cs : List ℕ) → ends_line c cs ≡ true → lines (c ∷ cs) ≡ (c ∷ []) ∷ lines cs
lines_ends c cs ends = ap (λ b. cond b ((c ∷ []) ∷ lines cs) (onto_first c (lines cs))) ends

pub lines_goes : (c : ℕ) (cs : List ℕ) → ends_line c cs ≡ false → lines (c ∷ cs) ≡ onto_first c (lines cs)
lines_goes c cs goes = ap (λ b. cond b ((c ∷ []) ∷ lines cs) (onto_first c (lines cs))) goes

-- there is a first line, and it begins with the first character
pub record Some_line (ls : List (List ℕ)) : Type 0 where
  pub first : List ℕ
  pub others : List (List ℕ)
  pub is : ls ≡ first ∷ others

pub some_line : (cs : List ℕ) → Some_line (lines cs)
some_line [] = record { first = []; others = []; is = refl }
some_line (c ∷ cs) =
    let more = some_line cs in
    ⊎_elim (λ ends. record { first = c ∷ []; others = lines cs; is = lines_ends c cs ends })
    (λ goes. record { first = c ∷ more.first; others = more.others; is = lines_goes c cs goes ∙ ap (onto_first c) more.is })
    (cases_Bool (ends_line c cs))

pub record Begins_with (c : ℕ) (ls : List (List ℕ)) : Type 0 where
  pub rest : List ℕ
  pub others : List (List ℕ)
  pub is : ls ≡ (c ∷ rest) ∷ others

pub begins_with : (c : ℕ) (cs : List ℕ) → Begins_with c (lines (c ∷ cs))
begins_with c cs =
    let more = some_line cs in
    ⊎_elim (λ ends. record { rest = []; others = lines cs; is = lines_ends c cs ends })
    (λ goes. record { rest = more.first; others = more.others; is = lines_goes c cs goes ∙ ap (onto_first c) more.is })
    (cases_Bool (ends_line c cs))

-- offsets: a character of a line before
pub offset_ends : (e : Encoding) (line character c : ℕ) (cs : List ℕ) → ends_line c cs ≡ true →
    offset_in e (suc line) character (lines (c ∷ cs)) ≡ char_units Utf8 c + offset_in e line character (lines cs)
offset_ends e line character c cs ends =
    ap (offset_in e (suc line) character) (lines_ends c cs ends)
    ∙ add_assoc (char_units Utf8 c) (units Utf8 (concat (take line (lines cs)))) (units Utf8 (fitting e character (content (get_or (lines cs) line []))))

offset_onto : (e : Encoding) (line character c : ℕ) (l : List ℕ) (ls : List (List ℕ)) →
    offset_in e (suc line) character ((c ∷ l) ∷ ls) ≡ char_units Utf8 c + offset_in e (suc line) character (l ∷ ls)
offset_onto e line character c l ls =
    add_assoc (char_units Utf8 c) (units Utf8 (l ++ concat (take line ls))) (units Utf8 (fitting e character (content (get_or ls line []))))

pub offset_goes : (e : Encoding) (line character c : ℕ) (cs : List ℕ) → ends_line c cs ≡ false →
    offset_in e (suc line) character (lines (c ∷ cs)) ≡ char_units Utf8 c + offset_in e (suc line) character (lines cs)
offset_goes e line character c cs goes =
    let more = some_line cs in
    ap (offset_in e (suc line) character) (lines_goes c cs goes ∙ ap (onto_first c) more.is)
    ∙ offset_onto e line character c more.first more.others
    ∙ ap (λ ls. char_units Utf8 c + offset_in e (suc line) character ls) (sym more.is)

-- offsets: a character of the line itself
pub first_content : (c : ℕ) (cs : List ℕ) → is_lf_or_cr c ≡ false → content (get_or (lines (c ∷ cs)) 0 []) ≡ c ∷ content (get_or (lines cs) 0 [])
first_content c cs plain =
    let more = some_line cs in
    ap (λ ls. content (get_or ls 0 [])) (lines_goes c cs (plain_goes c cs plain) ∙ ap (onto_first c) more.is)
    ∙ ap (λ b. cond b [] (c ∷ content more.first)) plain
    ∙ ap (λ ls. c ∷ content (get_or ls 0 [])) (sym more.is)

pub offset_fits : (e : Encoding) (character c : ℕ) (cs : List ℕ) → is_lf_or_cr c ≡ false → char_units e c ≤ character →
    offset_in e 0 character (lines (c ∷ cs)) ≡ char_units Utf8 c + offset_in e 0 (character - char_units e c) (lines cs)
offset_fits e character c cs plain fits =
    let run = content (get_or (lines cs) 0 []) in
    zero-add _
    ∙ ap (λ l. units Utf8 (fitting e character l)) (first_content c cs plain)
    ∙ ap (λ b. units Utf8 (cond b [] (c ∷ fitting e (character - char_units e c) run))) (le-ltb character (char_units e c) fits)
    ∙ ap (λ n. char_units Utf8 c + n) (sym (zero-add _))

pub offset_full : (e : Encoding) (character c : ℕ) (cs : List ℕ) → is_lf_or_cr c ≡ false → character < char_units e c →
    offset_in e 0 character (lines (c ∷ cs)) ≡ 0
offset_full e character c cs plain full =
    let run = content (get_or (lines cs) 0 []) in
    zero-add _
    ∙ ap (λ l. units Utf8 (fitting e character l)) (first_content c cs plain)
    ∙ ap (λ b. units Utf8 (cond b [] (c ∷ fitting e (character - char_units e c) run))) (lt-ltb character (char_units e c) full)

pub offset_at_end : (e : Encoding) (character c : ℕ) (cs : List ℕ) → is_lf_or_cr c ≡ true → offset_in e 0 character (lines (c ∷ cs)) ≡ 0
offset_at_end e character c cs ends =
    let more = begins_with c cs in
    zero-add _
    ∙ ap (λ ls. units Utf8 (fitting e character (content (get_or ls 0 [])))) more.is
    ∙ ap (λ b. units Utf8 (fitting e character (cond b [] (c ∷ content more.rest)))) ends

-- positions
pub position_eq : (a b c d : ℕ) → a ≡ c → b ≡ d → (let p : Position = record { line = a; character = b } in let q : Position = record { line = c; character = d } in p ≡ q)
position_eq a b c d first second = cc

one_line : (n : ℕ) → (1 + n == 0) ≡ false
one_line n = ne_eqb (1 + n) 0 (λ same. omega arith)

pub moved_next : (line character : ℕ) (p : Position) → moved line character (next_line p) ≡ moved (line + 1) 0 p
moved_next line character p =
    position_eq _ _ _ _ (omega arith) (ap (λ b. cond b (character + p.character) p.character) (one_line p.line) ∙ same (p.line == 0))
  where
    same : (b : Bool) → p.character ≡ cond b (0 + p.character) p.character
    same true = sym (zero-add p.character)
    same false = refl

pub moved_units : (line character n : ℕ) (p : Position) → moved line character (moved 0 n p) ≡ moved line (character + n) p
moved_units line character n p =
    position_eq _ _ _ _ (ap (λ x. line + x) (zero-add p.line))
    (ap (λ x. cond (x == 0) (character + cond (p.line == 0) (n + p.character) p.character) (cond (p.line == 0) (n + p.character) p.character)) (zero-add p.line) ∙ same (p.line == 0))
  where
    same : (b : Bool) → cond b (character + cond b (n + p.character) p.character) (cond b (n + p.character) p.character) ≡ cond b ((character + n) + p.character) p.character
    same true = sym (add_assoc character n p.character)
    same false = refl

pub moved_none : (line character : ℕ) → (let p : Position = record { line = 0; character = 0 } in let q : Position = record { line = line; character = character } in moved line character p ≡ q)
moved_none line character = position_eq _ _ _ _ (add-zero line) (add-zero character)

pub moved_start : (p : Position) → moved 0 0 p ≡ p
moved_start p = position_eq _ _ _ _ (zero-add p.line) (same (p.line == 0))
  where
    same : (b : Bool) → cond b (0 + p.character) p.character ≡ p.character
    same true = zero-add p.character
    same false = refl

-- positions: the first line, whose first character is past the offset
none_line : (e : Encoding) (offset c : ℕ) (l : List ℕ) → offset < char_units Utf8 c → (let q : Position = record { line = 0; character = 0 } in in_line e (c ∷ l) offset ≡ q)
none_line e offset c l past =
    ⊎_elim
    (λ ends. ap (λ b. place e offset (cond b [] (c ∷ content l))) ends)
    (λ plain. ap (λ b. place e offset (cond b [] (c ∷ content l))) plain
    ∙ ap (λ b. of_run e (cond b [] (c ∷ fitting Utf8 (offset - char_units Utf8 c) (content l)))) (lt-ltb offset (char_units Utf8 c) past))
    (cases_Bool (is_lf_or_cr c))
  where
    of_run : Encoding → List ℕ → Position
    of_run e run = record { line = 0; character = units e run }

    place : Encoding → ℕ → List ℕ → Position
    place e offset l = of_run e (fitting Utf8 offset l)

at_end_line : (e : Encoding) (offset c : ℕ) (l : List ℕ) → is_lf_or_cr c ≡ true → (let q : Position = record { line = 0; character = 0 } in in_line e (c ∷ l) offset ≡ q)
at_end_line e offset c l ends = ap (λ b. place (cond b [] (c ∷ content l))) ends
  where
    place : List ℕ → Position
    place run = record { line = 0; character = units e (fitting Utf8 offset run) }

position_none_in : (e : Encoding) (offset c : ℕ) (l : List ℕ) (ls : List (List ℕ)) → offset < char_units Utf8 c
    → (let q : Position = record { line = 0; character = 0 } in position_in e ((c ∷ l) ∷ ls) offset ≡ q)
position_none_in e offset c l [] past = none_line e offset c l past
position_none_in e offset c l (m ∷ ls) past =
    ap (λ b. cond b (in_line e (c ∷ l) offset) (next_line (position_in e (m ∷ ls) (offset - (char_units Utf8 c + units Utf8 l)))))
    (lt-ltb offset (char_units Utf8 c + units Utf8 l) (omega arith))
    ∙ none_line e offset c l past

pub position_before : (e : Encoding) (offset c : ℕ) (cs : List ℕ) → offset < char_units Utf8 c
    → (let q : Position = record { line = 0; character = 0 } in position_in e (lines (c ∷ cs)) offset ≡ q)
position_before e offset c cs past =
    let more = begins_with c cs in
    ap (λ ls. position_in e ls offset) more.is ∙ position_none_in e offset c more.rest more.others past

-- positions: a character that ends its line
position_past_line : (e : Encoding) (offset : ℕ) (l : List ℕ) (cs : List ℕ) → units Utf8 l ≤ offset
    → position_in e (l ∷ lines cs) offset ≡ next_line (position_in e (lines cs) (offset - units Utf8 l))
position_past_line e offset l cs past =
    let more = some_line cs in
    ap (λ ls. position_in e (l ∷ ls) offset) more.is
    ∙ ap (λ b. cond b (in_line e l offset) (next_line (position_in e (more.first ∷ more.others) (offset - units Utf8 l)))) (le-ltb offset (units Utf8 l) past)
    ∙ ap (λ ls. next_line (position_in e ls (offset - units Utf8 l))) (sym more.is)

position_in_line : (e : Encoding) (offset : ℕ) (l : List ℕ) (cs : List ℕ) → offset < units Utf8 l
    → position_in e (l ∷ lines cs) offset ≡ in_line e l offset
position_in_line e offset l cs inside =
    let more = some_line cs in
    ap (λ ls. position_in e (l ∷ ls) offset) more.is
    ∙ ap (λ b. cond b (in_line e l offset) (next_line (position_in e (more.first ∷ more.others) (offset - units Utf8 l)))) (lt-ltb offset (units Utf8 l) inside)

pub position_ends : (e : Encoding) (offset c : ℕ) (cs : List ℕ) → ends_line c cs ≡ true → char_units Utf8 c ≤ offset
    → position_in e (lines (c ∷ cs)) offset ≡ next_line (position_in e (lines cs) (offset - char_units Utf8 c))
position_ends e offset c cs ends past =
    ap (λ ls. position_in e ls offset) (lines_ends c cs ends)
    ∙ position_past_line e offset (c ∷ []) cs (omega arith)
    ∙ ap (λ n. next_line (position_in e (lines cs) (offset - n))) (add-zero (char_units Utf8 c))

-- positions: a carriage return before a line feed
pub first_is_feed : (a b x : Bool) → (a || (b && not x)) ≡ false → (a || b) ≡ true → x ≡ true
first_is_feed true b x goes ends = cc (goes)
first_is_feed false true true goes ends = refl
first_is_feed false true false goes ends = cc (goes)
first_is_feed false false x goes ends = cc (ends)

pub feed_ends : (d : ℕ) (cs : List ℕ) → (d == 10) ≡ true → ends_line d cs ≡ true
feed_ends d cs feed = ap (λ b. b || ((d == 13) && not (get_or cs 0 0 == 10))) feed

feed_is_end : (d : ℕ) → (d == 10) ≡ true → is_lf_or_cr d ≡ true
feed_is_end d feed = ap (λ b. b || (d == 13)) feed

position_return_in : (e : Encoding) (offset c d : ℕ) (cs : List ℕ) → ends_line c (d ∷ cs) ≡ false → is_lf_or_cr c ≡ true → (d == 10) ≡ true → char_units Utf8 c ≤ offset
    → position_in e (lines (c ∷ d ∷ cs)) offset ≡ position_in e (lines (d ∷ cs)) (offset - char_units Utf8 c)
position_return_in e offset c d cs goes ends feed past =
    let second = lines_ends d cs (feed_ends d cs feed) in
    let both : lines (c ∷ d ∷ cs) ≡ (c ∷ d ∷ []) ∷ lines cs = lines_goes c (d ∷ cs) goes ∙ ap (onto_first c) second in
    let width = char_units Utf8 c in
    let long = units Utf8 (d ∷ []) in
    ⊎_elim
    (λ inside. ap (λ ls. position_in e ls offset) both ∙ position_in_line e offset (c ∷ d ∷ []) cs inside ∙ at_end_line e offset c (d ∷ []) ends
    ∙ sym (ap (λ ls. position_in e ls (offset - width)) second ∙ position_in_line e (offset - width) (d ∷ []) cs (omega arith) ∙ at_end_line e (offset - width) d [] (feed_is_end d feed)))
    (λ behind. ap (λ ls. position_in e ls offset) both ∙ position_past_line e offset (c ∷ d ∷ []) cs behind
    ∙ ap (λ n. next_line (position_in e (lines cs) n)) (minus offset width long)
    ∙ sym (ap (λ ls. position_in e ls (offset - width)) second ∙ position_past_line e (offset - width) (d ∷ []) cs (omega arith)))
    (cases_lt offset (units Utf8 (c ∷ d ∷ [])))
  where
    minus : (n a b : ℕ) → n - (a + b) ≡ (n - a) - b
    minus n a b = omega arith

pub position_return : (e : Encoding) (offset c : ℕ) (cs : List ℕ) → ends_line c cs ≡ false → is_lf_or_cr c ≡ true → char_units Utf8 c ≤ offset
    → position_in e (lines (c ∷ cs)) offset ≡ position_in e (lines cs) (offset - char_units Utf8 c)
position_return e offset c [] goes ends past = let no = first_is_feed (c == 10) (c == 13) (0 == 10) goes ends in cc (no)
position_return e offset c (d ∷ cs) goes ends past = position_return_in e offset c d cs goes ends (first_is_feed (c == 10) (c == 13) (d == 10) goes ends) past

-- positions: any other character
line_plain : (e : Encoding) (offset c : ℕ) (l : List ℕ) → is_lf_or_cr c ≡ false → char_units Utf8 c ≤ offset
    → in_line e (c ∷ l) offset ≡ moved 0 (char_units e c) (in_line e l (offset - char_units Utf8 c))
line_plain e offset c l plain past =
    ap (λ b. place offset (cond b [] (c ∷ content l))) plain
    ∙ ap (λ b. of_run (cond b [] (c ∷ fitting Utf8 (offset - char_units Utf8 c) (content l)))) (le-ltb offset (char_units Utf8 c) past)
  where
    of_run : List ℕ → Position
    of_run run = record { line = 0; character = units e run }

    place : ℕ → List ℕ → Position
    place offset l = of_run (fitting Utf8 offset l)

moved_over : (n : ℕ) (p : Position) → next_line p ≡ moved 0 n (next_line p)
moved_over n p = position_eq _ _ _ _ (omega arith) (sym (ap (λ b. cond b (n + p.character) p.character) (one_line p.line)))

position_plain_in : (e : Encoding) (offset c : ℕ) (l : List ℕ) (ls : List (List ℕ)) → is_lf_or_cr c ≡ false → char_units Utf8 c ≤ offset
    → position_in e ((c ∷ l) ∷ ls) offset ≡ moved 0 (char_units e c) (position_in e (l ∷ ls) (offset - char_units Utf8 c))
position_plain_in e offset c l [] plain past = line_plain e offset c l plain past
position_plain_in e offset c l (m ∷ ls) plain past =
    let width = char_units Utf8 c in
    let n = char_units e c in
    ⊎_elim
    (λ inside. ap (λ b. cond b (in_line e (c ∷ l) offset) (next_line (position_in e (m ∷ ls) (offset - (width + units Utf8 l))))) (lt-ltb offset (width + units Utf8 l) inside)
    ∙ line_plain e offset c l plain past
    ∙ ap (λ b. moved 0 n (cond b (in_line e l (offset - width)) (next_line (position_in e (m ∷ ls) ((offset - width) - units Utf8 l))))) (sym (lt-ltb (offset - width) (units Utf8 l) (omega arith))))
    (λ behind. ap (λ b. cond b (in_line e (c ∷ l) offset) (next_line (position_in e (m ∷ ls) (offset - (width + units Utf8 l))))) (le-ltb offset (width + units Utf8 l) behind)
    ∙ ap (λ o. next_line (position_in e (m ∷ ls) o)) (minus offset width (units Utf8 l))
    ∙ moved_over n (position_in e (m ∷ ls) ((offset - width) - units Utf8 l))
    ∙ ap (λ b. moved 0 n (cond b (in_line e l (offset - width)) (next_line (position_in e (m ∷ ls) ((offset - width) - units Utf8 l))))) (sym (le-ltb (offset - width) (units Utf8 l) (omega arith))))
    (cases_lt offset (width + units Utf8 l))
  where
    minus : (n a b : ℕ) → n - (a + b) ≡ (n - a) - b
    minus n a b = omega arith

pub position_plain : (e : Encoding) (offset c : ℕ) (cs : List ℕ) → is_lf_or_cr c ≡ false → char_units Utf8 c ≤ offset
    → position_in e (lines (c ∷ cs)) offset ≡ moved 0 (char_units e c) (position_in e (lines cs) (offset - char_units Utf8 c))
position_plain e offset c cs plain past =
    let more = some_line cs in
    ap (λ ls. position_in e ls offset) (lines_goes c cs (plain_goes c cs plain) ∙ ap (onto_first c) more.is)
    ∙ position_plain_in e offset c more.first more.others plain past
    ∙ ap (λ ls. moved 0 (char_units e c) (position_in e ls (offset - char_units Utf8 c))) (sym more.is)
