-- The positions of offsets are those that stand between two characters.
use Rattle.std.proofs.Common.{◌≡◌, ℕ, suc, zero, ◌+◌, ◌-◌, ◌<◌, Bool, true, false, cond, List, [], ◌∷◌, length, get_or, take, refl, ap, sym, ◌∙◌, subst, arith, ⊎_elim, zero-add}
use Rattle.std.specs.Prelude.{nat_lt}
use Rattle.std.specs.Str.{chars}
use Rattle.std.proofs.lemmas.Bool.{cases_Bool, ne_eqb}
use Rattle.std.proofs.lemmas.List.{take_all}
use Rattle.doc_text.specs.declared.encoding.Encoding.{Encoding}
use Rattle.doc_text.specs.declared.encoding.Encoding.TheVariants.{Utf8}
use Rattle.doc_text.specs.declared.position.Position.{Position}
use Rattle.doc_text.specs.Lines.{is_lf_or_cr, ends_line, onto_first, lines, content}
use Rattle.doc_text.specs.Positions.{char_units, units, fitting, offset_in, offset_of, in_line, next_line, position_in, position_of}
use Rattle.doc_text.specs.Walks.{moved}
use Rattle.doc_text.specs.Laws.{StandsBetweenCharacters}
use Rattle.doc_text.proofs.Steps.{some_line, begins_with, lines_ends, lines_goes, plain_goes, first_content, offset_ends, offset_goes, offset_fits, position_ends, position_return, position_plain, position_eq}
use Rattle.doc_text.proofs.Trips.{start_position, start_offset}

-- in a list of lines
abbrev IsBetween : Encoding → List (List ℕ) → Position → Type 0
IsBetween e ls p = (p.line < length ls) × ((k : ℕ) × (p.character ≡ units e (take k (content (get_or ls p.line [])))))

-- the position of an offset: the run that it counts is a front
front_of : (f : Encoding) (n : ℕ) (cs : List ℕ) → (k : ℕ) × (fitting f n cs ≡ take k cs)
front_of f n [] = (zero, refl)
front_of f n (c ∷ cs) = by (nat_lt n (char_units f c)) (front_of f (n - char_units f c) cs)
  where
    by : (b : Bool) → (k : ℕ) × (fitting f (n - char_units f c) cs ≡ take k cs) → (k : ℕ) × (cond {A = List ℕ} b [] (c ∷ fitting f (n - char_units f c) cs) ≡ take k (c ∷ cs))
    by true h = (zero, refl)
    by false h = (suc h.0, ap (λ l. c ∷ l) h.1)

first_between : (e : Encoding) (l : List ℕ) (ls : List (List ℕ)) (offset : ℕ) → IsBetween e (l ∷ ls) (in_line e l offset)
first_between e l ls offset = let front = front_of Utf8 offset (content l) in (omega arith, (front.0, ap (units e) front.1))

next_between : (e : Encoding) (l : List ℕ) (ls : List (List ℕ)) (p : Position) → IsBetween e ls p → IsBetween e (l ∷ ls) (next_line p)
next_between e l ls p h =
    let next : 1 + p.line ≡ suc p.line = omega arith in
    (omega (arith, h.0), (h.1.0, h.1.1 ∙ ap (λ n. units e (take h.1.0 (content (get_or (l ∷ ls) n [])))) (sym next)))

is_between : (e : Encoding) (l : List ℕ) (ls : List (List ℕ)) (offset : ℕ) → IsBetween e (l ∷ ls) (position_in e (l ∷ ls) offset)
is_between e l [] offset = first_between e l [] offset
is_between e l (m ∷ ls) offset = by (nat_lt offset (units Utf8 l)) (is_between e m ls (offset - units Utf8 l))
  where
    by : (b : Bool) → IsBetween e (m ∷ ls) (position_in e (m ∷ ls) (offset - units Utf8 l)) → IsBetween e (l ∷ m ∷ ls) (cond {A = Position} b (in_line e l offset) (next_line (position_in e (m ∷ ls) (offset - units Utf8 l))))
    by true h = first_between e l (m ∷ ls) offset
    by false h = next_between e l (m ∷ ls) (position_in e (m ∷ ls) (offset - units Utf8 l)) h

pub between_characters : (e : Encoding) (text : List ℕ) (offset : ℕ) → StandsBetweenCharacters e (position_of e text offset) text
unfolding position_of
between_characters e text offset =
    let some = some_line (chars text) in
    subst (λ ls. IsBetween e ls (position_in e ls offset)) (sym some.is) (is_between e some.first some.others offset)

-- a position between two characters: its offset's position
less_first : (a b : ℕ) → (a + b) - a ≡ b
less_first a b = omega arith

abbrev Back : Encoding → List ℕ → ℕ → ℕ → Type 0
Back e cs line character =
    let p : Position = record { line = line; character = character } in position_in e (lines cs) (offset_in e line character (lines cs)) ≡ p

-- the start of a text is its first position
back_start : (e : Encoding) (cs : List ℕ) (character : ℕ) → character ≡ 0 → Back e cs 0 character
back_start e cs character none =
    ap (position_in e (lines cs)) (ap (λ n. offset_in e 0 n (lines cs)) none ∙ start_offset e cs) ∙ start_position e cs ∙ position_eq 0 0 0 character refl (sym none)

back_ends : (e : Encoding) (c : ℕ) (cs : List ℕ) (line character : ℕ) → ends_line c cs ≡ true → Back e cs line character → Back e (c ∷ cs) (suc line) character
back_ends e c cs line character ends back =
    let o = offset_in e line character (lines cs) in
    ap (position_in e (lines (c ∷ cs))) (offset_ends e line character c cs ends)
    ∙ position_ends e (char_units Utf8 c + o) c cs ends (omega arith)
    ∙ ap (λ n. next_line (position_in e (lines cs) n)) (less_first (char_units Utf8 c) o)
    ∙ ap next_line back ∙ position_eq _ _ (suc line) character (omega arith) refl

back_return : (e : Encoding) (c : ℕ) (cs : List ℕ) (line character : ℕ) → ends_line c cs ≡ false → is_lf_or_cr c ≡ true → Back e cs (suc line) character → Back e (c ∷ cs) (suc line) character
back_return e c cs line character goes end back =
    let o = offset_in e (suc line) character (lines cs) in
    ap (position_in e (lines (c ∷ cs))) (offset_goes e line character c cs goes)
    ∙ position_return e (char_units Utf8 c + o) c cs goes end (omega arith)
    ∙ ap (position_in e (lines cs)) (less_first (char_units Utf8 c) o) ∙ back

back_below : (e : Encoding) (c : ℕ) (cs : List ℕ) (line character : ℕ) → is_lf_or_cr c ≡ false → Back e cs (suc line) character → Back e (c ∷ cs) (suc line) character
back_below e c cs line character plain back =
    let goes = plain_goes c cs plain in
    let o = offset_in e (suc line) character (lines cs) in
    ap (position_in e (lines (c ∷ cs))) (offset_goes e line character c cs goes)
    ∙ position_plain e (char_units Utf8 c + o) c cs plain (omega arith)
    ∙ ap (λ n. moved 0 (char_units e c) (position_in e (lines cs) n)) (less_first (char_units Utf8 c) o)
    ∙ ap (moved 0 (char_units e c)) back
    ∙ position_eq _ _ (suc line) character (zero-add (suc line)) (ap (λ b. cond b (char_units e c + character) character) (ne_eqb (suc line) 0 (λ same. omega arith)))

back_beside : (e : Encoding) (c : ℕ) (cs : List ℕ) (character : ℕ) → is_lf_or_cr c ≡ false → Back e cs 0 character → Back e (c ∷ cs) 0 (char_units e c + character)
back_beside e c cs character plain back =
    let o = offset_in e 0 character (lines cs) in
    ap (position_in e (lines (c ∷ cs)))
    (offset_fits e (char_units e c + character) c cs plain (omega arith) ∙ ap (λ n. char_units Utf8 c + offset_in e 0 n (lines cs)) (less_first (char_units e c) character))
    ∙ position_plain e (char_units Utf8 c + o) c cs plain (omega arith)
    ∙ ap (λ n. moved 0 (char_units e c) (position_in e (lines cs) n)) (less_first (char_units Utf8 c) o)
    ∙ ap (moved 0 (char_units e c)) back

-- the same with what is known of a position in front of the first character
first_is_empty : (c : ℕ) (cs : List ℕ) → is_lf_or_cr c ≡ true → content (get_or (lines (c ∷ cs)) 0 []) ≡ []
first_is_empty c cs end =
    let first = begins_with c cs in ap (λ ls. content (get_or ls 0 [])) first.is ∙ ap (λ b. cond b [] (c ∷ content first.rest)) end

come_plain : (e : Encoding) (c : ℕ) (cs : List ℕ) (character k : ℕ) → is_lf_or_cr c ≡ false → character ≡ units e (take k (c ∷ content (get_or (lines cs) 0 [])))
    → ((n : ℕ) → IsBetween e (lines cs) (record { line = 0; character = n }) → Back e cs 0 n) → Back e (c ∷ cs) 0 character
come_plain e c cs character zero plain is back = back_start e (c ∷ cs) character is
come_plain e c cs character (suc k) plain is back =
    let rest = units e (take k (content (get_or (lines cs) 0 []))) in
    let some = ap length (some_line cs).is in
    subst (Back e (c ∷ cs) 0) (sym is) (back_beside e c cs rest plain (back rest (omega (arith, some), (k, refl))))

come_first : (e : Encoding) (c : ℕ) (cs : List ℕ) (character : ℕ) → IsBetween e (lines (c ∷ cs)) (record { line = 0; character = character })
    → ((n : ℕ) → IsBetween e (lines cs) (record { line = 0; character = n }) → Back e cs 0 n) → Back e (c ∷ cs) 0 character
come_first e c cs character h back =
    ⊎_elim
    (λ end. back_start e (c ∷ cs) character (h.1.1 ∙ ap (λ l. units e (take h.1.0 l)) (first_is_empty c cs end) ∙ ap (units e) (take_all h.1.0 [] (omega arith))))
    (λ plain. come_plain e c cs character h.1.0 plain (h.1.1 ∙ ap (λ l. units e (take h.1.0 l)) (first_content c cs plain)) back)
    (cases_Bool (is_lf_or_cr c))

-- and on a later line
below_ends : (e : Encoding) (c : ℕ) (cs : List ℕ) (line character : ℕ) → ends_line c cs ≡ true → IsBetween e (lines (c ∷ cs)) (record { line = suc line; character = character })
    → IsBetween e (lines cs) (record { line = line; character = character })
below_ends e c cs line character ends h =
    let g = subst (λ ls. IsBetween e ls (record { line = suc line; character = character })) (lines_ends c cs ends) h in (omega (arith, g.0), (g.1.0, g.1.1))

below_goes : (e : Encoding) (c : ℕ) (cs : List ℕ) (line character : ℕ) → ends_line c cs ≡ false → IsBetween e (lines (c ∷ cs)) (record { line = suc line; character = character })
    → IsBetween e (lines cs) (record { line = suc line; character = character })
below_goes e c cs line character goes h =
    let more = some_line cs in
    let g = subst (λ ls. IsBetween e ls (record { line = suc line; character = character })) (lines_goes c cs goes ∙ ap (onto_first c) more.is) h in
    subst (λ ls. IsBetween e ls (record { line = suc line; character = character })) (sym more.is) (omega (arith, g.0), (g.1.0, g.1.1))

come_below : (e : Encoding) (c : ℕ) (cs : List ℕ) (line character : ℕ) → IsBetween e (lines (c ∷ cs)) (record { line = suc line; character = character })
    → ((l : ℕ) → IsBetween e (lines cs) (record { line = l; character = character }) → Back e cs l character) → Back e (c ∷ cs) (suc line) character
come_below e c cs line character h back =
    ⊎_elim (λ ends. back_ends e c cs line character ends (back line (below_ends e c cs line character ends h)))
    (λ goes. ⊎_elim (λ end. back_return e c cs line character goes end (back (suc line) (below_goes e c cs line character goes h)))
    (λ plain. back_below e c cs line character plain (back (suc line) (below_goes e c cs line character goes h)))
    (cases_Bool (is_lf_or_cr c)))
    (cases_Bool (ends_line c cs))

come_back : (e : Encoding) (cs : List ℕ) (line character : ℕ) → IsBetween e (lines cs) (record { line = line; character = character }) → Back e cs line character
come_back e [] zero character h = back_start e [] character (h.1.1 ∙ ap (units e) (take_all h.1.0 [] (omega arith)))
come_back e [] (suc line) character h = absurd (omega (arith, h.0))
come_back e (c ∷ cs) zero character h = come_first e c cs character h (λ n. come_back e cs zero n)
come_back e (c ∷ cs) (suc line) character h = come_below e c cs line character h (λ l. come_back e cs l character)

pub lead_back : (e : Encoding) (p : Position) (text : List ℕ) → StandsBetweenCharacters e p text → position_of e text (offset_of e p text) ≡ p
unfolding offset_of position_of
lead_back e p text h = come_back e (chars text) p.line p.character h
