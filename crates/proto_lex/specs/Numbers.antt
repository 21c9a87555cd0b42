-- The runs of bytes that begin as a number does, and which of them are numbers.
use Rattle.std.specs.Prelude.{◌≡◌, ◌⊎◌, ℕ, ◌+◌, Bool, true, false, not, List, [], ◌∷◌, ◌||◌, ◌&&◌, ◌==◌, nat_lt, if◌then◌else◌, length, take, drop, slice_index, position, Option, Some, None, ⊤}
use Rattle.std.specs.Char.{is_ascii_digit, is_ascii_hexdigit}
use Rattle.std.specs.List.{list_all}
use Rattle.std.specs.Str.{byte}
use Rattle.proto_lex.specs.declared.token.Kind.{Kind}
use Rattle.proto_lex.specs.declared.token.Kind.TheVariants.{Int, Float, Bad}
use Rattle.proto_lex.specs.declared.token.Reason.TheVariants.{Number}
use Rattle.proto_lex.specs.declared.bytes.Class.TheVariants as class
use Rattle.proto_lex.specs.Bytes.{class_of, is_name_byte}

-- `+` or `-`
unfoldable pub is_sign : ℕ → Bool
is_sign b = (b == byte "+") || (b == byte "-")

-- `e` or `E`
unfoldable pub is_exponent_mark : ℕ → Bool
is_exponent_mark b = (b == byte "e") || (b == byte "E")

-- `x` or `X`
unfoldable pub is_hex_mark : ℕ → Bool
is_hex_mark b = (b == byte "x") || (b == byte "X")

-- `0` to `7`
unfoldable pub is_octal : ℕ → Bool
is_octal b = is_ascii_digit b && nat_lt b (byte "8")

-- the bytes begin with `0x` or `0X`
unfoldable pub is_hex : List ℕ → Bool
is_hex bs = nat_lt 1 (length bs) && ((slice_index bs 0 == byte "0") && is_hex_mark (slice_index bs 1))

-- A run goes on with a letter, a digit or a dot, and with a sign right after an exponent mark, unless it is
-- hexadecimal.
unfoldable pub continues_run : Bool → ℕ → ℕ → Bool
continues_run hex before b = (is_name_byte b || (b == byte ".")) || ((is_sign b && is_exponent_mark before) && not hex)

-- each byte goes on with the run, the first of them after `before`
abbrev pub IsRunRest : Bool → ℕ → List ℕ → Type 0
IsRunRest hex before [] = ⊤
IsRunRest hex before (b ∷ bs) = (continues_run hex before b ≡ true) × IsRunRest hex b bs

-- the bytes begin with a digit, or with a dot and a digit
abbrev pub BeginsWithNumber : List ℕ → Type 0
BeginsWithNumber [] = ⊥
BeginsWithNumber (b ∷ []) = class_of b ≡ class.Digit
BeginsWithNumber (b ∷ c ∷ bs) = (class_of b ≡ class.Digit) ⊎ ((b ≡ byte ".") × (class_of c ≡ class.Digit))

-- the bytes begin so, and each goes on with the run
abbrev pub IsNumberRun : List ℕ → Type 0
IsNumberRun [] = ⊥
IsNumberRun (b ∷ bs) = BeginsWithNumber (b ∷ bs) × IsRunRest (is_hex (b ∷ bs)) b bs

-- one or more digits
unfoldable pub is_digits : List ℕ → Bool
is_digits bs = nat_lt 0 (length bs) && list_all is_ascii_digit bs

-- `0x` and hexadecimal digits, `0` and octal digits, or digits that don't begin with `0`
unfoldable pub is_int : List ℕ → Bool
is_int bs =
    if is_hex bs then nat_lt 2 (length bs) && list_all is_ascii_hexdigit (drop 2 bs)
    else (if slice_index bs 0 == byte "0" then list_all is_octal (drop 1 bs) else is_digits bs)

-- digits with a dot among them, before them or after them, where the dot is at a place
unfoldable pub is_point_at : List ℕ → Option ℕ → Bool
is_point_at bs None = false
is_point_at bs (Some i) = (nat_lt 1 (length bs) && list_all is_ascii_digit (take i bs)) && list_all is_ascii_digit (drop (i + 1) bs)

-- the same, where the first dot is
unfoldable pub is_point : List ℕ → Bool
is_point bs = is_point_at bs (position (λ b. b == byte ".") bs)

-- what follows the exponent mark: a sign or none, and digits
unfoldable pub is_exponent : List ℕ → Bool
is_exponent bs = if is_sign (slice_index bs 0) then is_digits (drop 1 bs) else is_digits bs

-- digits or a point before the exponent mark at a place, and an exponent behind it; or a point and no mark
unfoldable pub is_float_at : List ℕ → Option ℕ → Bool
is_float_at bs None = is_point bs
is_float_at bs (Some i) = (is_point (take i bs) || is_digits (take i bs)) && is_exponent (drop (i + 1) bs)

-- a number with a dot, with an exponent, or with both
unfoldable pub is_float : List ℕ → Bool
is_float bs = is_float_at bs (position is_exponent_mark bs)

-- the kind of a run
unfoldable pub number_kind : List ℕ → Kind
number_kind bs = if is_int bs then Int else (if is_float bs then Float else Bad Number)
