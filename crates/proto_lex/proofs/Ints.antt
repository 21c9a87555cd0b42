-- `is_int` says of which bytes that they have an integer's form.
use Rattle.std.proofs.Common.{◌≡◌, ℕ, ◌<◌, ◌≤◌, ◌⊎◌, inl, inr, Bool, true, false, cond, List, [], ◌∷◌, length, drop, refl, ap, sym, ◌∙◌, subst, arith, lt-ltb, ltb-true}
use Rattle.std.specs.Prelude.{◌==◌, ◌&&◌, nat_lt, slice_index}
use Rattle.std.specs.Char.{is_ascii_digit, is_ascii_hexdigit}
use Rattle.std.specs.List.{list_all}
use Rattle.std.proofs.lemmas.Bool.Decides.{nat_tests}
use Rattle.proto_lex.specs.Numbers.{is_hex, is_hex_mark, is_octal, is_digits, is_int}
use Rattle.proto_lex.specs.NumberForms.{IsDecimal, IsOctal, IsHexadecimal, IsInt}
use Rattle.proto_lex.proofs.Bools.{and_left, and_right, or_either, or_left, or_right, eq_of, eq_test}
use Rattle.proto_lex.proofs.Numbers.{hex_cons}

-- bytes that pass have a form
hex_mark_of : (c : ℕ) → is_hex_mark c ≡ true → (c ≡ 120) ⊎ (c ≡ 88)
unfolding is_hex_mark
hex_mark_of c test = elim (or_either (c == 120) (c == 88) test) [ inl small ↦ inl (eq_of c 120 small) | inr great ↦ inr (eq_of c 88 great) ]

hexadecimal_of : (bs : List ℕ) → is_hex bs ≡ true → (nat_lt 2 (length bs) && list_all is_ascii_hexdigit (drop 2 bs)) ≡ true → IsHexadecimal bs
unfolding is_hex
hexadecimal_of [] hex test = cc (hex)
hexadecimal_of (b ∷ []) hex test = cc (hex)
hexadecimal_of (b ∷ c ∷ bs) hex test =
    let start : ((b == 48) && is_hex_mark c) ≡ true = sym (hex_cons b c bs) ∙ hex in
    let long = ltb-true 2 (length (b ∷ c ∷ bs)) (and_left (nat_lt 2 (length (b ∷ c ∷ bs))) (list_all is_ascii_hexdigit bs) test) in (
      eq_of b 48 (and_left (b == 48) (is_hex_mark c) start),
      hex_mark_of c (and_right (b == 48) (is_hex_mark c) start),
      omega (arith, long),
      and_right (nat_lt 2 (length (b ∷ c ∷ bs))) (list_all is_ascii_hexdigit bs) test,
    )

zero_of : (bs : List ℕ) → (slice_index bs 0 == 48) ≡ true → list_all is_octal (drop 1 bs) ≡ true → IsInt bs
zero_of [] zero test = cc (zero)
zero_of (b ∷ []) zero test = inl (ap (λ z. z ∷ []) (eq_of b 48 zero))
zero_of (b ∷ c ∷ bs) zero test = inr (inr (inl (eq_of b 48 zero, omega arith, test)))

low_digit : (b : ℕ) → is_ascii_digit b ≡ true → (b == 48) ≡ false → 49 ≤ b
low_digit b digit zero = grind (arith, nat_tests)

high_digit : (b : ℕ) → is_ascii_digit b ≡ true → b ≤ 57
high_digit b digit = grind (arith, nat_tests)

decimal_of : (bs : List ℕ) → (slice_index bs 0 == 48) ≡ false → is_digits bs ≡ true → IsDecimal bs
unfolding is_digits
decimal_of [] zero test = cc (test)
decimal_of (b ∷ bs) zero test =
    let digits = and_right (nat_lt 0 (length (b ∷ bs))) (list_all is_ascii_digit (b ∷ bs)) test in
    let digit = and_left (is_ascii_digit b) (list_all is_ascii_digit bs) digits in
    (low_digit b digit zero, high_digit b digit, and_right (is_ascii_digit b) (list_all is_ascii_digit bs) digits)

int_of_tests : (bs : List ℕ) (hex zero : Bool) → is_hex bs ≡ hex → (slice_index bs 0 == 48) ≡ zero
    → cond hex (nat_lt 2 (length bs) && list_all is_ascii_hexdigit (drop 2 bs)) (cond zero (list_all is_octal (drop 1 bs)) (is_digits bs)) ≡ true → IsInt bs
int_of_tests bs true zero is_hex_run is_zero test = inr (inr (inr (hexadecimal_of bs is_hex_run test)))
int_of_tests bs false true is_hex_run is_zero test = zero_of bs is_zero test
int_of_tests bs false false is_hex_run is_zero test = inr (inl (decimal_of bs is_zero test))

int_of : (bs : List ℕ) → is_int bs ≡ true → IsInt bs
unfolding is_int
int_of bs test = int_of_tests bs (is_hex bs) (slice_index bs 0 == 48) refl refl test

-- bytes of a form pass
no_hex : (b : ℕ) (bs : List ℕ) → (b == 48) ≡ false → is_hex (b ∷ bs) ≡ false
unfolding is_hex
no_hex b [] zero = refl
no_hex b (c ∷ bs) zero = hex_cons b c bs ∙ ap (λ t. t && is_hex_mark c) zero

no_octal_mark : (c : ℕ) → is_octal c ≡ true → is_hex_mark c ≡ false
unfolding is_octal is_hex_mark
no_octal_mark c octal = grind (arith, nat_tests)

decimal_digit : (d : ℕ) → 49 ≤ d → d ≤ 57 → is_ascii_digit d ≡ true
decimal_digit d low high = grind (arith, nat_tests)

no_zero : (d : ℕ) → 49 ≤ d → (d == 48) ≡ false
no_zero d low = grind (arith, nat_tests)

decimal_test : (bs : List ℕ) → IsDecimal bs → is_int bs ≡ true
unfolding is_int is_digits
decimal_test [] form = absurd form
decimal_test (d ∷ bs) form =
    let hex = no_hex d bs (no_zero d form.0) in
    let zero = no_zero d form.0 in
    let some : 0 < length (d ∷ bs) = omega arith in
    rw (hex, zero, lt-ltb 0 (length (d ∷ bs)) some, decimal_digit d form.0 form.1) form.2

octal_test : (bs : List ℕ) → IsOctal bs → is_int bs ≡ true
unfolding is_int
octal_test [] form = absurd form
octal_test (z ∷ []) form = absurd (omega (arith, form.1))
octal_test (z ∷ c ∷ bs) form =
    let zero = eq_test z 48 form.0 in
    let mark = no_octal_mark c (and_left (is_octal c) (list_all is_octal bs) form.2) in
    let hex : is_hex (z ∷ c ∷ bs) ≡ false = hex_cons z c bs ∙ rw (zero, mark) refl in
    rw (hex, zero) form.2

hex_mark_test : (c : ℕ) → (c ≡ 120) ⊎ (c ≡ 88) → is_hex_mark c ≡ true
unfolding is_hex_mark
hex_mark_test c (inl small) = or_left (c == 120) (c == 88) (eq_test c 120 small)
hex_mark_test c (inr great) = or_right (c == 120) (c == 88) (eq_test c 88 great)

hexadecimal_test : (bs : List ℕ) → IsHexadecimal bs → is_int bs ≡ true
unfolding is_int
hexadecimal_test [] form = absurd form
hexadecimal_test (z ∷ []) form = absurd form
hexadecimal_test (z ∷ x ∷ bs) form =
    let zero = eq_test z 48 form.0 in
    let mark = hex_mark_test x form.1 in
    let hex : is_hex (z ∷ x ∷ bs) ≡ true = hex_cons z x bs ∙ rw (zero, mark) refl in
    let some = form.2 in
    let long : 2 < length (z ∷ x ∷ bs) = omega (arith, some) in
    rw (hex, lt-ltb 2 (length (z ∷ x ∷ bs)) long) form.3

zero_test : is_int (48 ∷ []) ≡ true
unfolding is_int is_hex
zero_test = refl

int_test : (bs : List ℕ) → IsInt bs → is_int bs ≡ true
int_test bs (inl zero) = subst (λ l. is_int l ≡ true) (sym zero) zero_test
int_test bs (inr (inl decimal)) = decimal_test bs decimal
int_test bs (inr (inr (inl octal))) = octal_test bs octal
int_test bs (inr (inr (inr hexadecimal))) = hexadecimal_test bs hexadecimal

pub ints_are_forms : (bs : List ℕ) → (is_int bs ≡ true → IsInt bs) × (IsInt bs → is_int bs ≡ true)
ints_are_forms bs = (int_of bs, int_test bs)
