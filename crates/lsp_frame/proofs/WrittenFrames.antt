-- A written frame is a whole one.
use Rattle.std.proofs.Common.{◌≡◌, ℕ, zero, suc, ◌+◌, ◌-◌, ◌<◌, ◌≤◌, true, false, List, [], ◌∷◌, ◌++◌, length, get_or, arith, ap, sym, ◌∙◌, refl, Some, Ok, length-append, append-nil, append_assoc, nat_lt, eqb, not}
use Rattle.std.specs.Prelude.{codes, decimal}
use Rattle.std.specs.List.{list_all, position, prefix_len, suffix_len}
use Rattle.std.specs.Char.{is_ascii_digit, digit_value}
use Rattle.std.specs.Str.Parse.{AllDigits, digits_value}
use Rattle.std.proofs.lemmas.Bool.{lt-ltb, le-leb}
use Rattle.std.proofs.lemmas.Bool.Decides.{nat_tests}
use Rattle.std.proofs.lemmas.Fmt.{decimal_is_IsNumeral, length-decimal-le}
use Rattle.std.proofs.lemmas.List.{take_all}
use Rattle.std.proofs.lemmas.List.Folds.{list_all_at}
use Rattle.std.proofs.lemmas.List.Sums.{suffix_len_is}
use Rattle.std.proofs.lemmas.Str.Parse.{digit_from_value}
use Rattle.lsp_frame.specs.Grammar.{HasNoLineEnd, IsLine, header_of}
use Rattle.lsp_frame.specs.Header.{◌>>=◌, line_end, is_colon, is_space, without_first_spaces, without_last_spaces, length_at, content_length, field_length, header_lines, last_length, allowed_length, body_length, max_body}
use Rattle.lsp_frame.specs.Stream.{behind_header}
use Rattle.lsp_frame.specs.StreamLaws.{IsFrame}
use Rattle.lsp_frame.specs.Writing.{frame_of}
use Rattle.lsp_frame.proofs.Fronts.{first_frame-some, whole}
use Rattle.lsp_frame.proofs.Grammar.{header_lines-header_of, headers_are_found}

-- digits

no_space : (c : ℕ) → digit_value c < 10 → is_space c ≡ false
no_space c h = let range = digit_from_value c h in grind (arith, nat_tests)

is_digit : (c : ℕ) → digit_value c < 10 → is_ascii_digit c ≡ true
is_digit c h = let range = digit_from_value c h in grind (arith, nat_tests)

no_return : (c : ℕ) → digit_value c < 10 → not (eqb c 13) ≡ true
no_return c h = let range = digit_from_value c h in grind (arith, nat_tests)

all_digits : (ds : List ℕ) → AllDigits 10 ds → list_all is_ascii_digit ds ≡ true
all_digits [] h = refl
all_digits (d ∷ ds) h = rw (is_digit d h.0, all_digits ds h.1) refl

no_returns : (ds : List ℕ) → AllDigits 10 ds → list_all (λ c. not (eqb c 13)) ds ≡ true
no_returns [] h = refl
no_returns (d ∷ ds) h = rw (no_return d h.0, no_returns ds h.1) refl

digit_at : (ds : List ℕ) → AllDigits 10 ds → (k : ℕ) → k < length ds → digit_value (get_or ds k 0) < 10
digit_at [] h k lt = absurd (omega (arith, lt))
digit_at (d ∷ ds) h zero lt = h.0
digit_at (d ∷ ds) h (suc k) lt = digit_at ds h.1 k (omega (arith, lt))

no_first_space : (ds : List ℕ) → AllDigits 10 ds → prefix_len is_space ds ≡ 0
no_first_space [] h = refl
no_first_space (d ∷ ds) h = rw (no_space d h.0) refl

no_last_space : (ds : List ℕ) → AllDigits 10 ds → suffix_len is_space ds ≡ 0
no_last_space ds h =
    let none = suffix_len_is is_space ds (length ds) 0 (omega arith) (λ k le lt. absurd (omega (arith, le, lt))) (λ some. no_space _ (digit_at ds h (length ds - 1) (omega (arith, some)))) in
    omega (arith, none)

-- the value is what stands behind the space
value_is : (ds : List ℕ) → AllDigits 10 ds → without_last_spaces (without_first_spaces (32 ∷ ds)) ≡ ds
value_is ds h =
    let first : without_first_spaces (32 ∷ ds) ≡ ds = rw (no_first_space ds h) refl in
    let last : without_last_spaces ds ≡ ds = rw (no_last_space ds h) (take_all (length ds - 0) ds (omega arith)) in
    ap without_last_spaces first ∙ last

-- the line of a header part that names the length

abbrev line_of : List ℕ → List ℕ
line_of ds = codes "Content-Length: " ++ ds

colon_is : (ds : List ℕ) → position is_colon (line_of ds) ≡ Some 14
colon_is ds = rw (lt-ltb 14 (length (line_of ds)) (omega arith)) refl

field : (ds : List ℕ) → AllDigits 10 ds → 0 < length ds → length ds ≤ 10 → field_length (codes "Content-Length") ds ≡ Ok (Some (digits_value 10 ds))
field ds h some short = rw (lt-ltb 0 (length ds) some, le-leb (length ds) 10 short, all_digits ds h) refl

content_length-is : (ds : List ℕ) → AllDigits 10 ds → 0 < length ds → length ds ≤ 10 → content_length (line_of ds) ≡ Ok (Some (digits_value 10 ds))
content_length-is ds h some short =
    ap (length_at (line_of ds)) (colon_is ds) ∙ ap (field_length (codes "Content-Length")) (value_is ds h) ∙ field ds h some short

HasNoLineEnd-none : (line : List ℕ) → list_all (λ c. not (eqb c 13)) line ≡ true → HasNoLineEnd line
HasNoLineEnd-none line all k lt here next =
    let no : list_all (λ c. not (eqb c 13)) line ≡ false = list_all_at (λ c. not (eqb c 13)) line k 0 (omega (arith, lt)) (rw here refl) in cc

is_line : (ds : List ℕ) → AllDigits 10 ds → IsLine (line_of ds)
is_line ds h = (omega arith, HasNoLineEnd-none (line_of ds) (no_returns ds h))

-- the header part, and the frame

abbrev header : List ℕ → List ℕ
header ds = header_of (line_of ds ∷ [])

not_below : (m n : ℕ) → n ≤ m → nat_lt m n ≡ false
not_below m n le = grind (arith, nat_tests)

allowed : (n : ℕ) → n ≤ max_body → allowed_length (Some n) ≡ Ok n
allowed n le = rw (not_below max_body n le) refl

header-is : (ds : List ℕ) → header ds ≡ codes "Content-Length: " ++ (ds ++ codes "\r\n\r\n")
header-is ds = ap (λ l. codes "Content-Length: " ++ l) (ap (λ l. l ++ line_end) (append-nil (ds ++ line_end)) ∙ append_assoc ds line_end line_end)

body_length-is : (ds : List ℕ) (n : ℕ) → AllDigits 10 ds → 0 < length ds → length ds ≤ 10 → digits_value 10 ds ≡ n → n ≤ max_body → body_length (header ds) ≡ Ok n
body_length-is ds n h some short is le =
    let lines : header_lines (header ds) ≡ line_of ds ∷ [] = header_lines-header_of (line_of ds ∷ []) (is_line ds h, tt) in
    let last : last_length (line_of ds ∷ []) ≡ Ok (Some n) = rw (content_length-is ds h some short, is) refl in
    ap (λ ls. last_length ls >>= allowed_length) lines ∙ ap (λ r. r >>= allowed_length) last ∙ allowed n le

whole_frame : (ds body : List ℕ) → AllDigits 10 ds → 0 < length ds → length ds ≤ 10 → digits_value 10 ds ≡ length body → length body ≤ max_body → IsFrame (header ds ++ body) body
whole_frame ds body h some short is le =
    let size : length (header ds) ≡ length ds + 20 = omega (arith, ap length (header-is ds), length-append ds (codes "\r\n\r\n")) in
    let found = headers_are_found (line_of ds ∷ []) body (is_line ds h, tt) (omega (arith, size, short)) in
    let behind = body_length-is ds (length body) h some short is le in
    first_frame-some (header ds) body found ∙ ap (behind_header body) behind ∙ ap (λ b. behind_header b (Ok (length body))) (sym (append-nil body)) ∙ whole body [] (length body) refl

frame_is : (ds body : List ℕ) → header ds ++ body ≡ codes "Content-Length: " ++ ds ++ codes "\r\n\r\n" ++ body
frame_is ds body = ap (λ h. h ++ body) (header-is ds)

pub written_is_read : (body : List ℕ) → length body ≤ max_body → IsFrame (frame_of body) body
written_is_read body le =
    let number = decimal_is_IsNumeral (length body) (omega (arith, le)) in
    let short = length-decimal-le 10 (length body) (omega arith) (omega (arith, le)) (omega (arith, le)) in
    rw (← frame_is (decimal (length body)) body) (whole_frame (decimal (length body)) body number.0.1 number.0.0 short number.1 le)
