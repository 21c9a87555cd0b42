-- `is_float` says of which bytes that they have a float's form.
use Rattle.std.proofs.Common.{◌≡◌, ℕ, ◌+◌, ◌<◌, ◌⊎◌, inl, inr, Bool, true, false, cond, List, [], ◌∷◌, ◌++◌, length, get_or, take, drop, refl, ap, sym, ◌∙◌, subst, arith, lt-ltb, le-ltb, ltb-true, add-one, append-nil, append_assoc, length-append, take-append-drop, drop-cons, Some, None, Option}
use Rattle.std.specs.Prelude.{not, ◌==◌, ◌&&◌, ◌||◌, position, nat_lt, slice_index}
use Rattle.std.specs.List.{list_all, All}
use Rattle.std.specs.Char.{is_ascii_digit}
use Rattle.std.proofs.Math.Seq.{get_or-append_seam}
use Rattle.std.proofs.lemmas.List.{take_at, drop_at}
use Rattle.std.proofs.lemmas.List.Prefix.{front_reads}
use Rattle.std.proofs.lemmas.List.Quantifiers.{position-Some}
use Rattle.std.proofs.lemmas.List.Sums.{prefix_len_is, AllPass-from_list_all}
use Rattle.std.proofs.lemmas.List.Elements.{All-get_or, All-weaker, All-append, All-cons}
use Rattle.std.proofs.lemmas.Bool.Decides.{nat_tests}
use Rattle.proto_lex.proofs.Bools.{and_left, and_right, or_either, or_left, or_right}
use Rattle.proto_lex.specs.Numbers.{is_sign, is_exponent_mark, is_digits, is_point, is_point_at, is_exponent, is_float, is_float_at}
use Rattle.proto_lex.specs.NumberForms.{IsPoint, IsSigned, IsExponent, IsFloat}

-- the place of the first byte that passes
position_is : (p : ℕ → Bool) (bs : List ℕ) (n : ℕ) → n < length bs → p (get_or bs n 0) ≡ true → ((k : ℕ) → k < n → p (get_or bs k 0) ≡ false) → position p bs ≡ Some n
position_is p bs n inside passes before =
    let len = prefix_len_is (λ x. not (p x)) bs n 0 (omega arith) (λ k below. ap not (before k below)) (λ _. ap not passes) in
    rw (len, lt-ltb n (length bs) inside) refl

position_none : (p : ℕ → Bool) (bs : List ℕ) → ((k : ℕ) → k < length bs → p (get_or bs k 0) ≡ false) → position p bs ≡ None
position_none p bs fails =
    let len = prefix_len_is (λ x. not (p x)) bs (length bs) 0 (omega arith) (λ k below. ap not (fails k below)) (λ inside. absurd (omega arith)) in
    rw (len, le-ltb (length bs) (length bs) (omega arith)) refl

position_at : (p : ℕ → Bool) (xs ys : List ℕ) (y : ℕ) → All (λ x. p x ≡ false) xs → p y ≡ true → position p (xs ++ y ∷ ys) ≡ Some (length xs)
position_at p xs ys y none passes =
    let size = length-append xs (y ∷ ys) in
    let here : get_or (xs ++ y ∷ ys) (length xs) 0 ≡ y = get_or-append_seam xs y ys 0 in
    position_is p (xs ++ y ∷ ys) (length xs) (omega (arith, size)) (ap p here ∙ passes)
    (λ k below. ap p (front_reads 0 (xs ++ y ∷ ys) xs (y ∷ ys) refl k below) ∙ All-get_or (λ x. p x ≡ false) xs k 0 below none)

-- a list round its element at a place
round : (bs : List ℕ) (i : ℕ) → i < length bs → bs ≡ take i bs ++ get_or bs i 0 ∷ drop (i + 1) bs
round bs i inside = sym (take-append-drop i bs) ∙ ap (λ l. take i bs ++ l) (rw (add-one, drop-cons bs i 0) refl)

after_at : (xs ys : List ℕ) (y : ℕ) → drop (length xs + 1) (xs ++ y ∷ ys) ≡ ys
after_at xs ys y = ap (drop (length xs + 1)) (sym (append_assoc xs (y ∷ []) ys)) ∙ drop_at (xs ++ y ∷ []) ys (length xs + 1) (length-append xs (y ∷ []))

-- digits have no dot, no mark and no sign among them
digit_no_mark : (x : ℕ) → is_ascii_digit x ≡ true → is_exponent_mark x ≡ false
unfolding is_exponent_mark
digit_no_mark x digit = grind (arith, nat_tests)

digit_no_sign : (x : ℕ) → is_ascii_digit x ≡ true → is_sign x ≡ false
unfolding is_sign
digit_no_sign x digit = grind (arith, nat_tests)

digit_no_dot : (x : ℕ) → is_ascii_digit x ≡ true → (x == 46) ≡ false
digit_no_dot x digit = grind (arith, nat_tests)

dot_no_mark : is_exponent_mark 46 ≡ false
unfolding is_exponent_mark
dot_no_mark = refl

digits_none : (p : ℕ → Bool) (bs : List ℕ) → ((x : ℕ) → is_ascii_digit x ≡ true → p x ≡ false) → list_all is_ascii_digit bs ≡ true → All (λ x. p x ≡ false) bs
digits_none p bs apart all = All-weaker (λ x. is_ascii_digit x ≡ true) (λ x. p x ≡ false) apart bs (AllPass-from_list_all is_ascii_digit bs all)

-- a point
point_form_at : (bs : List ℕ) (o : Option ℕ) → position (λ b. b == 46) bs ≡ o → is_point_at bs o ≡ true → IsPoint bs
unfolding is_point_at
point_form_at bs None at test = cc (test)
point_form_at bs (Some i) at test =
    let found = position-Some (λ b. b == 46) bs i 0 at in
    let parts = round bs i found.0 in
    let dot : get_or bs i 0 ≡ 46 = is_dot (get_or bs i 0) found.1 in
    let front = and_left (nat_lt 1 (length bs) && list_all is_ascii_digit (take i bs)) (list_all is_ascii_digit (drop (i + 1) bs)) test in
    let long = ltb-true 1 (length bs) (and_left (nat_lt 1 (length bs)) (list_all is_ascii_digit (take i bs)) front) in
    let size = ap length parts ∙ length-append (take i bs) (get_or bs i 0 ∷ drop (i + 1) bs) in (
      take i bs,
      drop (i + 1) bs,
      parts ∙ ap (λ y. take i bs ++ y ∷ drop (i + 1) bs) dot,
      and_right (nat_lt 1 (length bs)) (list_all is_ascii_digit (take i bs)) front,
      and_right (nat_lt 1 (length bs) && list_all is_ascii_digit (take i bs)) (list_all is_ascii_digit (drop (i + 1) bs)) test,
      omega (arith, long, size),
    )
  where
    is_dot : (x : ℕ) → (x == 46) ≡ true → x ≡ 46
    is_dot x test = grind (arith, nat_tests)

point_form : (bs : List ℕ) → is_point bs ≡ true → IsPoint bs
unfolding is_point
point_form bs test = point_form_at bs (position (λ b. b == 46) bs) refl test

point_test_of : (whole fraction : List ℕ) → list_all is_ascii_digit whole ≡ true → list_all is_ascii_digit fraction ≡ true → 0 < length whole + length fraction
    → is_point (whole ++ 46 ∷ fraction) ≡ true
unfolding is_point is_point_at
point_test_of whole fraction digits also some =
    let size = length-append whole (46 ∷ fraction) in
    let at = position_at (λ b. b == 46) whole fraction 46 (digits_none (λ b. b == 46) whole digit_no_dot digits) refl in
    let front : take (length whole) (whole ++ 46 ∷ fraction) ≡ whole = take_at whole (46 ∷ fraction) (length whole) refl in
    let long : 1 < length (whole ++ 46 ∷ fraction) = omega (arith, size, some) in
    rw (at, front, after_at whole fraction 46, digits, also, lt-ltb 1 (length (whole ++ 46 ∷ fraction)) long) refl

point_test : (bs : List ℕ) → IsPoint bs → is_point bs ≡ true
point_test bs point = subst (λ l. is_point l ≡ true) (sym point.2) (point_test_of point.0 point.1 point.3 point.4 point.5)

point_no_mark : (bs : List ℕ) → IsPoint bs → All (λ x. is_exponent_mark x ≡ false) bs
point_no_mark bs point =
    subst (All (λ x. is_exponent_mark x ≡ false)) (sym point.2)
    (All-append (λ x. is_exponent_mark x ≡ false) point.0 (46 ∷ point.1) (digits_none is_exponent_mark point.0 digit_no_mark point.3)
    (All-cons (λ x. is_exponent_mark x ≡ false) 46 point.1 dot_no_mark (digits_none is_exponent_mark point.1 digit_no_mark point.4)))

-- digits
digits_all : (bs : List ℕ) → is_digits bs ≡ true → list_all is_ascii_digit bs ≡ true
unfolding is_digits
digits_all bs digits = and_right (nat_lt 0 (length bs)) (list_all is_ascii_digit bs) digits

first_digit : (bs : List ℕ) → is_digits bs ≡ true → is_sign (slice_index bs 0) ≡ false
unfolding is_digits
first_digit [] digits = cc (digits)
first_digit (b ∷ bs) digits =
    digit_no_sign b (and_left (is_ascii_digit b) (list_all is_ascii_digit bs) (and_right (nat_lt 0 (length (b ∷ bs))) (list_all is_ascii_digit (b ∷ bs)) digits))

-- an exponent
exponent_form : (bs : List ℕ) → is_exponent bs ≡ true → (is_digits bs ≡ true) ⊎ IsSigned bs
unfolding is_exponent is_digits is_sign
exponent_form [] test = inl test
exponent_form (b ∷ bs) test = by_sign b bs (is_sign b) refl test
  where
    by_sign : (b : ℕ) (bs : List ℕ) (t : Bool) → is_sign b ≡ t → cond t (is_digits bs) (is_digits (b ∷ bs)) ≡ true → (is_digits (b ∷ bs) ≡ true) ⊎ IsSigned (b ∷ bs)
    by_sign b bs true sign test = inr (sign, test)
    by_sign b bs false sign test = inl test

exponent_test : (bs : List ℕ) → (is_digits bs ≡ true) ⊎ IsSigned bs → is_exponent bs ≡ true
unfolding is_exponent
exponent_test bs (inl digits) = rw (first_digit bs digits) digits
exponent_test [] (inr signed) = absurd signed
exponent_test (b ∷ bs) (inr signed) = rw signed.0 signed.1

-- a float
float_form_at : (bs : List ℕ) (o : Option ℕ) → position is_exponent_mark bs ≡ o → is_float_at bs o ≡ true → IsFloat bs
unfolding is_float_at
float_form_at bs None at test = (bs, [], sym (append-nil bs), inl (point_form bs test, inl refl))
float_form_at bs (Some i) at test =
    let found = position-Some is_exponent_mark bs i 0 at in
    let front = and_left (is_point (take i bs) || is_digits (take i bs)) (is_exponent (drop (i + 1) bs)) test in
    let exponent = exponent_form (drop (i + 1) bs) (and_right (is_point (take i bs) || is_digits (take i bs)) (is_exponent (drop (i + 1) bs)) test) in (
      take i bs,
      get_or bs i 0 ∷ drop (i + 1) bs,
      round bs i found.0,
      elim (or_either (is_point (take i bs)) (is_digits (take i bs)) front) [
        | inl point ↦ inl (point_form (take i bs) point, inr (found.1, exponent))
        | inr digits ↦ inr (digits, (found.1, exponent))
      ],
    )

with_exponent : (mantissa rest : List ℕ) (m : ℕ) → All (λ x. is_exponent_mark x ≡ false) mantissa → is_exponent_mark m ≡ true
    → (is_point mantissa || is_digits mantissa) ≡ true → is_exponent rest ≡ true → is_float (mantissa ++ m ∷ rest) ≡ true
unfolding is_float is_float_at
with_exponent mantissa rest m none mark front exponent =
    let at = position_at is_exponent_mark mantissa rest m none mark in
    let before : take (length mantissa) (mantissa ++ m ∷ rest) ≡ mantissa = take_at mantissa (m ∷ rest) (length mantissa) refl in
    rw (at, before, after_at mantissa rest m, front, exponent) refl

without_exponent : (bs : List ℕ) → IsPoint bs → is_float bs ≡ true
unfolding is_float is_float_at
without_exponent bs point =
    let at = position_none is_exponent_mark bs (λ k below. All-get_or (λ x. is_exponent_mark x ≡ false) bs k 0 below (point_no_mark bs point)) in
    rw at (point_test bs point)

float_test_of : (mantissa exponent : List ℕ) → ((IsPoint mantissa × ((exponent ≡ []) ⊎ IsExponent exponent)) ⊎ ((is_digits mantissa ≡ true) × IsExponent exponent))
    → is_float (mantissa ++ exponent) ≡ true
float_test_of mantissa [] (inl point) = rw append-nil (without_exponent mantissa point.0)
float_test_of mantissa [] (inr digits) = absurd digits.1
float_test_of mantissa (m ∷ rest) (inl point) =
    elim point.1 [
      | inl none ↦ cc (none)
      | inr exponent ↦ with_exponent mantissa rest m (point_no_mark mantissa point.0) exponent.0
          (or_left (is_point mantissa) (is_digits mantissa) (point_test mantissa point.0)) (exponent_test rest exponent.1)
    ]
float_test_of mantissa (m ∷ rest) (inr digits) =
    with_exponent mantissa rest m (digits_none is_exponent_mark mantissa digit_no_mark (digits_all mantissa digits.0)) digits.1.0
    (or_right (is_point mantissa) (is_digits mantissa) digits.0) (exponent_test rest digits.1.1)

float_form : (bs : List ℕ) → is_float bs ≡ true → IsFloat bs
unfolding is_float
float_form bs test = float_form_at bs (position is_exponent_mark bs) refl test

pub floats_are_forms : (bs : List ℕ) → (is_float bs ≡ true → IsFloat bs) × (IsFloat bs → is_float bs ≡ true)
floats_are_forms bs = (float_form bs, λ float. subst (λ l. is_float l ≡ true) (sym float.2) (float_test_of float.0 float.1 float.3))
