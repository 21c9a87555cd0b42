-- The forms of integers and of floats, tied to the tests `is_int` and `is_float`.
use Rattle.std.specs.Prelude.{◌≡◌, ◌⊎◌, ◌↔◌, ℕ, ◌+◌, ◌<◌, ◌≤◌, ◌++◌, true, List, [], ◌∷◌, length, IsTrue, codes}
use Rattle.std.specs.Char.{is_ascii_digit, is_ascii_hexdigit}
use Rattle.std.specs.List.{list_all}
use Rattle.std.specs.Str.{byte}
use Rattle.proto_lex.specs.Numbers.{is_sign, is_exponent_mark, is_octal, is_digits, is_int, is_float}

-- a digit 1 to 9, and digits
abbrev pub IsDecimal : List ℕ → Type 0
IsDecimal [] = ⊥
IsDecimal (d ∷ bs) = (byte "1" ≤ d) × (d ≤ byte "9") × (list_all is_ascii_digit bs ≡ true)

-- `0`, and one octal digit or more
abbrev pub IsOctal : List ℕ → Type 0
IsOctal [] = ⊥
IsOctal (z ∷ bs) = (z ≡ byte "0") × (0 < length bs) × (list_all is_octal bs ≡ true)

-- `0x` or `0X`, and one hexadecimal digit or more
abbrev pub IsHexadecimal : List ℕ → Type 0
IsHexadecimal [] = ⊥
IsHexadecimal (z ∷ []) = ⊥
IsHexadecimal (z ∷ x ∷ bs) = (z ≡ byte "0") × ((x ≡ byte "x") ⊎ (x ≡ byte "X")) × (0 < length bs) × (list_all is_ascii_hexdigit bs ≡ true)

-- `0`, or one of these
abbrev pub IsInt : List ℕ → Type 0
IsInt bs = (bs ≡ codes "0") ⊎ (IsDecimal bs ⊎ (IsOctal bs ⊎ IsHexadecimal bs))

-- digits with a dot before, behind or among them
abbrev pub IsPoint : List ℕ → Type 0
IsPoint bs = (whole : List ℕ) × (fraction : List ℕ) × (bs ≡ whole ++ byte "." ∷ fraction)
    × (list_all is_ascii_digit whole ≡ true) × (list_all is_ascii_digit fraction ≡ true) × (0 < length whole + length fraction)

-- a sign, and digits
abbrev pub IsSigned : List ℕ → Type 0
IsSigned [] = ⊥
IsSigned (s ∷ bs) = (is_sign s ≡ true) × (is_digits bs ≡ true)

-- `e` or `E`, a sign or none, and digits
abbrev pub IsExponent : List ℕ → Type 0
IsExponent [] = ⊥
IsExponent (m ∷ bs) = (is_exponent_mark m ≡ true) × ((is_digits bs ≡ true) ⊎ IsSigned bs)

-- a point with an exponent or without, or digits with one
abbrev pub IsFloat : List ℕ → Type 0
IsFloat bs = (mantissa : List ℕ) × (exponent : List ℕ) × (bs ≡ mantissa ++ exponent)
    × ((IsPoint mantissa × ((exponent ≡ []) ⊎ IsExponent exponent)) ⊎ ((is_digits mantissa ≡ true) × IsExponent exponent))

-- the test of integers finds their form
abbrev pub IntsAreForms : Type 0
IntsAreForms = (bs : List ℕ) → IsTrue (is_int bs) ↔ IsInt bs

-- the test of floats finds their form
abbrev pub FloatsAreForms : Type 0
FloatsAreForms = (bs : List ℕ) → IsTrue (is_float bs) ↔ IsFloat bs
