-- A header part against its grammar.
use Rattle.std.proofs.Common.{◌≡◌, ℕ, zero, suc, ◌+◌, ◌-◌, ◌<◌, ◌≤◌, true, false, inl, inr, Bool, ◌&&◌, ◌||◌, List, [], ◌∷◌, ◌++◌, length, take, drop, eqb, nat_eq, nat_lt, arith, ap, sym, ◌∙◌, refl, subst, append_assoc, append-nil, add-one, one-add, length-append, take-append-drop, Some, cond}
use Rattle.std.proofs.lemmas.Bool.{lt-ltb}
use Rattle.std.proofs.lemmas.Bool.Decides.{eqb_tells}
use Rattle.std.proofs.lemmas.List.{take_at, take-take, length-drop, length-take-le}
use Rattle.std.proofs.lemmas.Slice.Eq.{starts_is, ends_is}
use Rattle.std.specs.Cmp.{unsigned_Decides}
use Rattle.std.specs.List.{flat_map, take_while, starts_with, ends_with}
use Rattle.lsp_frame.specs.Grammar.{HasNoLineEnd, AreLines, header_of}
use Rattle.lsp_frame.specs.Header.{line_end, between_line_ends, prepend_byte, header_lines, is_some_line, is_whole_header}
use Rattle.lsp_frame.specs.Stream.{header_len, max_header}
use Rattle.lsp_frame.proofs.Headers.{NoneWhole, header_len-at}
use Rattle.lsp_frame.proofs.Lines.{HasNoLineEnd-tail, some_stretch, between_line_ends-line, no_end_here, end_before}
use Rattle.lsp_frame.proofs.FoundHeaders.{header_at}

take_while-some : (b : ℕ) (line : List ℕ) (lines : List (List ℕ)) → take_while is_some_line ((b ∷ line) ∷ lines) ≡ (b ∷ line) ∷ take_while is_some_line lines
take_while-some b line lines = let some : nat_lt 0 (suc (length line)) ≡ true = lt-ltb 0 (suc (length line)) (omega arith) in rw (some, one-add) refl

-- lines, the empty line and what is behind it

header_lines-behind : (lines : List (List ℕ)) (rest : List ℕ) → AreLines lines → header_lines (header_of lines ++ rest) ≡ lines
header_lines-behind [] rest are =
    let first = some_stretch rest in
    let cut : between_line_ends (line_end ++ rest) ≡ [] ∷ between_line_ends rest = rw first.2 (end_before first.0 first.1) in
    ap (take_while is_some_line) cut
header_lines-behind ([] ∷ lines) rest are = absurd (omega (arith, are.0.0))
header_lines-behind ((b ∷ line) ∷ lines) rest are =
    let whole = b ∷ line in
    let regrouped : header_of (whole ∷ lines) ++ rest ≡ whole ++ line_end ++ (header_of lines ++ rest) =
    ap (λ h. h ++ rest) (append_assoc (whole ++ line_end) (flat_map (λ l. l ++ line_end) lines) line_end) ∙ append_assoc (whole ++ line_end) (header_of lines) rest in
    ap header_lines regrouped ∙ ap (take_while is_some_line) (between_line_ends-line whole (header_of lines ++ rest) are.0.1) ∙ take_while-some b line (between_line_ends (header_of lines ++ rest)) ∙ ap (λ ls. whole ∷ ls) (header_lines-behind lines rest are.1)

pub header_lines-header_of : (lines : List (List ℕ)) → AreLines lines → header_lines (header_of lines) ≡ lines
header_lines-header_of lines are = ap header_lines (sym (append-nil (header_of lines))) ∙ header_lines-behind lines [] are

-- stretches, joined by line ends

abbrev joined : List (List ℕ) → List ℕ
joined [] = []
joined (line ∷ []) = line
joined (line ∷ next ∷ lines) = line ++ line_end ++ joined (next ∷ lines)

joined-cons : (b : ℕ) (line : List ℕ) (lines : List (List ℕ)) → joined ((b ∷ line) ∷ lines) ≡ b ∷ joined (line ∷ lines)
joined-cons b line [] = refl
joined-cons b line (next ∷ lines) = refl

joined-prepend : (b : ℕ) (line : List ℕ) (lines : List (List ℕ)) → joined (prepend_byte b (line ∷ lines)) ≡ b ∷ joined (line ∷ lines)
joined-prepend b [] lines = rw (no_end_here b [] (λ k lt cr lf. omega (arith, lt))) (joined-cons b [] lines)
joined-prepend b (c ∷ line) lines = elim (eqb_tells b 13) [
  | inl p ↦ elim (eqb_tells 10 c) [
    | inl q ↦ rw (p.0, q.0) (ap (λ x. x ∷ 10 ∷ joined (line ∷ lines)) (sym p.1) ∙ ap (λ x. b ∷ x ∷ joined (line ∷ lines)) q.1 ∙ ap (λ l. b ∷ l) (sym (joined-cons c line lines)))
    | inr q ↦ rw (p.0, q.0) (joined-cons b (c ∷ line) lines)
  ]
  | inr p ↦ rw p.0 (joined-cons b (c ∷ line) lines)
]

joined-between : (bytes : List ℕ) → joined (between_line_ends bytes) ≡ bytes
joined-between [] = refl
joined-between (b ∷ bytes) =
    let first = some_stretch bytes in
    ap (λ ls. joined (prepend_byte b ls)) first.2 ∙ joined-prepend b first.0 first.1 ∙ ap (λ l. b ∷ l) (sym (ap joined first.2) ∙ joined-between bytes)

-- no line end stands in any of them
abbrev AreFree : List (List ℕ) → Type 0
AreFree [] = Unit {0}
AreFree (line ∷ lines) = HasNoLineEnd line × AreFree lines

free-cons : (b : ℕ) (line : List ℕ) → (eqb b 13 && starts_with nat_eq line (10 ∷ [])) ≡ false → HasNoLineEnd line → HasNoLineEnd (b ∷ line)
free-cons b [] apart free zero lt cr lf = omega (arith, lt)
free-cons b (c ∷ line) apart free zero lt cr lf = absurd (ends_here b c cr lf apart)
  where
    ends_here : (b c : ℕ) → b ≡ 13 → c ≡ 10 → (eqb b 13 && (eqb 10 c && true)) ≡ false → ⊥
    ends_here b c p q apart = let known : true ≡ false = (rw (p, q) at apart) in cc
free-cons b line apart free (suc k) lt cr lf = free k (omega (arith, lt)) cr (rw add-one (rw add-one at lf))

free-prepend : (b : ℕ) (line : List ℕ) (lines : List (List ℕ)) → HasNoLineEnd line → AreFree lines → AreFree (prepend_byte b (line ∷ lines))
free-prepend b line lines free others = by_test (eqb b 13 && starts_with nat_eq line (10 ∷ [])) refl
  where
    dropped : (l : List ℕ) → HasNoLineEnd l → HasNoLineEnd (drop 1 l)
    dropped [] h = h
    dropped (c ∷ l) h = HasNoLineEnd-tail c l h

    by_test : (ends : Bool) → (eqb b 13 && starts_with nat_eq line (10 ∷ [])) ≡ ends → AreFree (prepend_byte b (line ∷ lines))
    by_test true is = rw is ((λ k lt cr lf. omega (arith, lt)), (dropped line free, others))
    by_test false is = rw is (free-cons b line is free, others)

between-free : (bytes : List ℕ) → AreFree (between_line_ends bytes)
between-free [] = ((λ k lt cr lf. omega (arith, lt)), tt)
between-free (b ∷ bytes) =
    let first = some_stretch bytes in
    let free = subst AreFree first.2 (between-free bytes) in
    subst (λ ls. AreFree (prepend_byte b ls)) (sym first.2) (free-prepend b first.0 first.1 free.0 free.1)

AreLines-some : (lines : List (List ℕ)) → AreFree lines → AreLines (take_while is_some_line lines)
AreLines-some [] free = tt
AreLines-some ([] ∷ lines) free = tt
AreLines-some ((b ∷ line) ∷ lines) free = rw (take_while-some b line lines) ((omega arith, free.0), AreLines-some lines free.1)

-- a whole header part

between-append : (bytes rest : List ℕ) → between_line_ends (bytes ++ line_end ++ rest) ≡ between_line_ends bytes ++ between_line_ends rest
between-append [] rest = let first = some_stretch rest in rw first.2 (end_before first.0 first.1)
between-append (b ∷ bytes) rest =
    let first = some_stretch bytes in
    ap (prepend_byte b) (between-append bytes rest) ∙ rw first.2 (by_test (eqb b 13 && starts_with nat_eq first.0 (10 ∷ [])) first.0 first.1)
  where
    by_test : (ends : Bool) (line : List ℕ) (lines : List (List ℕ)) → cond ends ([] ∷ drop 1 line ∷ (lines ++ between_line_ends rest)) ((b ∷ line) ∷ (lines ++ between_line_ends rest)) ≡ cond ends ([] ∷ drop 1 line ∷ lines) ((b ∷ line) ∷ lines) ++ between_line_ends rest
    by_test true line lines = refl
    by_test false line lines = refl

-- the first empty line of some that two empty ones end
first_empty : (lines : List (List ℕ)) → (next : List ℕ) × (others : List (List ℕ)) × (lines ++ [] ∷ [] ∷ [] ≡ take_while is_some_line (lines ++ [] ∷ [] ∷ []) ++ [] ∷ next ∷ others)
first_empty [] = ([], [], refl)
first_empty ([] ∷ []) = ([], [] ∷ [], refl)
first_empty ([] ∷ next ∷ lines) = (next, lines ++ [] ∷ [] ∷ [], refl)
first_empty ((b ∷ line) ∷ lines) =
    let behind = first_empty lines in
    (behind.0, behind.1, ap (λ ls. (b ∷ line) ∷ ls) behind.2 ∙ ap (λ ls. ls ++ [] ∷ behind.0 ∷ behind.1) (sym (take_while-some b line (lines ++ [] ∷ [] ∷ []))))

joined-onto : (line : List ℕ) (lines : List (List ℕ)) (x : List ℕ) (xs : List (List ℕ)) → joined (line ∷ (lines ++ x ∷ xs)) ≡ line ++ line_end ++ joined (lines ++ x ∷ xs)
joined-onto line [] x xs = refl
joined-onto line (next ∷ lines) x xs = refl

joined-header : (lines : List (List ℕ)) (next : List ℕ) (others : List (List ℕ)) → joined (lines ++ [] ∷ next ∷ others) ≡ header_of lines ++ joined (next ∷ others)
joined-header [] next others = refl
joined-header (line ∷ lines) next others =
    joined-onto line lines [] (next ∷ others) ∙ ap (λ l. line ++ line_end ++ l) (joined-header lines next others) ∙ sym (append_assoc (line ++ line_end) (header_of lines) (joined (next ∷ others)))
    ∙ ap (λ l. l ++ joined (next ∷ others)) (sym (append_assoc (line ++ line_end) (flat_map (λ l. l ++ line_end) lines) line_end))

-- the bytes begin with the header part of their lines
abbrev BeginsWithLines : List ℕ → Type 0
BeginsWithLines bytes = (rest : List ℕ) × (bytes ≡ header_of (header_lines bytes) ++ rest)

begins_at_once : (bytes rest : List ℕ) → bytes ≡ line_end ++ rest → BeginsWithLines bytes
begins_at_once bytes rest is = (rest, is ∙ ap (λ lines. header_of lines ++ rest) (sym (ap header_lines is ∙ header_lines-behind [] rest tt)))

begins_later : (bytes front : List ℕ) → bytes ≡ front ++ (line_end ++ line_end) → BeginsWithLines bytes
begins_later bytes front is =
    let cut : between_line_ends bytes ≡ between_line_ends front ++ [] ∷ [] ∷ [] = ap between_line_ends (is ∙ sym (append_assoc front line_end line_end)) ∙ between-append front line_end in
    let empty = first_empty (between_line_ends front) in
    let lines : take_while is_some_line (between_line_ends front ++ [] ∷ [] ∷ []) ≡ header_lines bytes = ap (take_while is_some_line) (sym cut) in
    (joined (empty.0 ∷ empty.1), sym (joined-between bytes) ∙ ap joined (cut ∙ empty.2) ∙ joined-header (take_while is_some_line (between_line_ends front ++ [] ∷ [] ∷ [])) empty.0 empty.1 ∙ ap (λ ls. header_of ls ++ joined (empty.0 ∷ empty.1)) lines)

begins_with_lines : (bytes : List ℕ) → is_whole_header bytes ≡ true → BeginsWithLines bytes
begins_with_lines bytes whole = by_tests (starts_with nat_eq bytes line_end) (ends_with nat_eq bytes (line_end ++ line_end)) refl refl whole
  where
    by_tests : (starts ends : Bool) → starts ≡ starts_with nat_eq bytes line_end → ends ≡ ends_with nat_eq bytes (line_end ++ line_end) → (starts || ends) ≡ true → BeginsWithLines bytes
    by_tests true ends s e h = begins_at_once bytes (drop 2 bytes) ((starts_is unsigned_Decides bytes line_end true s).0 refl)
    by_tests false true s e h = begins_later bytes (take (length bytes - 4) bytes) ((ends_is unsigned_Decides bytes (line_end ++ line_end) true e).0 refl)
    by_tests false false s e h = cc

ends_line : (line : List ℕ) (lines : List (List ℕ)) → (front : List ℕ) × (flat_map (λ l. l ++ line_end) (line ∷ lines) ≡ front ++ line_end)
ends_line line [] = (line, append-nil (line ++ line_end))
ends_line line (next ∷ lines) =
    let behind = ends_line next lines in
    (line ++ line_end ++ behind.0, ap (λ l. line ++ line_end ++ l) behind.1 ∙ sym (append_assoc (line ++ line_end) behind.0 line_end))

header_of-whole : (lines : List (List ℕ)) → is_whole_header (header_of lines) ≡ true
header_of-whole [] = refl
header_of-whole (line ∷ lines) =
    let last = ends_line line lines in
    let is : header_of (line ∷ lines) ≡ last.0 ++ (line_end ++ line_end) = ap (λ l. l ++ line_end) last.1 ∙ append_assoc last.0 line_end line_end in
    either (starts_with nat_eq (header_of (line ∷ lines)) line_end) _ ((ends_is unsigned_Decides (header_of (line ∷ lines)) (line_end ++ line_end) _ refl).1 last.0 is)
  where
    either : (starts ends : Bool) → ends ≡ true → (starts || ends) ≡ true
    either true ends e = refl
    either false ends e = e

-- what is found, and what is not

pub only_headers_are_found : (bytes : List ℕ) (n : ℕ) → header_len bytes ≡ Some n → AreLines (header_lines (take n bytes)) × (take n bytes ≡ header_of (header_lines (take n bytes)))
only_headers_are_found bytes n found =
    let at = header_at bytes n found in
    let header = take n bytes in
    let begin = begins_with_lines header at.whole in
    (AreLines-some (between_line_ends header) (between-free header), nothing_behind begin.0 begin.1 (length-take-le n bytes at.within) at.none_before)
  where
    nothing_behind : (rest : List ℕ) → take n bytes ≡ header_of (header_lines (take n bytes)) ++ rest → length (take n bytes) ≡ n → NoneWhole bytes (n - 1) → take n bytes ≡ header_of (header_lines (take n bytes))
    nothing_behind [] is len none = is ∙ append-nil (header_of (header_lines (take n bytes)))
    nothing_behind (x ∷ rest) is len none =
        let whole = header_of (header_lines (take n bytes)) in
        let shorter : length whole + suc (length rest) ≡ n = sym (length-append whole (x ∷ rest)) ∙ ap length (sym is) ∙ len in
        let here : take (length whole) bytes ≡ whole = sym (take-take (length whole) n bytes (omega (arith, shorter))) ∙ ap (take (length whole)) is ∙ take_at whole (x ∷ rest) (length whole) refl in
        let open_here : is_whole_header whole ≡ false = ap is_whole_header (sym here) ∙ none (length whole) (omega (arith, shorter)) in
        let closed_here = header_of-whole (header_lines (take n bytes)) in cc

-- no shorter front of a header part is one
none_shorter : (lines : List (List ℕ)) → AreLines lines → (k : ℕ) → k < length (header_of lines) → is_whole_header (take k (header_of lines)) ≡ false
none_shorter lines are k lt = by_test (is_whole_header (take k (header_of lines))) refl
  where
    by_test : (whole : Bool) → is_whole_header (take k (header_of lines)) ≡ whole → is_whole_header (take k (header_of lines)) ≡ false
    by_test false is = is
    by_test true is =
        let all = header_of lines in
        let front = take k all in
        let begin = begins_with_lines front is in
        let short = header_lines front in
        let regrouped : all ≡ header_of short ++ (begin.0 ++ drop k all) = sym (take-append-drop k all) ∙ ap (λ l. l ++ drop k all) begin.1 ∙ append_assoc (header_of short) begin.0 (drop k all) in
        let same : lines ≡ short = sym (header_lines-header_of lines are) ∙ ap header_lines regrouped ∙ header_lines-behind short (begin.0 ++ drop k all) (AreLines-some (between_line_ends front) (between-free front)) in
        let size : length all ≡ length (header_of short) + length (begin.0 ++ drop k all) = ap length regrouped ∙ length-append (header_of short) (begin.0 ++ drop k all) in
        let equal : length all ≡ length (header_of short) = ap (λ ls. length (header_of ls)) same in
        absurd (omega (arith, size, equal, length-append begin.0 (drop k all), length-drop k all, lt))

pub headers_are_found : (lines : List (List ℕ)) (rest : List ℕ) → AreLines lines → length (header_of lines) ≤ max_header → header_len (header_of lines ++ rest) ≡ Some (length (header_of lines))
headers_are_found lines rest are fits =
    let some : 0 < length (header_of lines) = omega (arith, length-append (flat_map (λ l. l ++ line_end) lines) line_end) in
    header_len-at (header_of lines) rest some fits (λ k le. none_shorter lines are k (omega (arith, le, some))) (header_of-whole lines)
