-- What a byte can begin.
use Rattle.std.specs.Prelude.{ℕ, Bool, ◌||◌, ◌&&◌, ◌==◌, nat_le, nat_lt, if◌then◌else◌, codes}
use Rattle.std.specs.Char.{is_ascii_alphabetic, is_ascii_digit}
use Rattle.std.specs.List.{list_any}
use Rattle.std.specs.Str.{byte}
use Rattle.proto_lex.specs.declared.bytes.Class.{Class}
use Rattle.proto_lex.specs.declared.bytes.Class.TheVariants.{Letter, Digit, Quote, Space, Symbol, Other}

-- an ASCII letter or an underscore
unfoldable pub is_letter : ℕ → Bool
is_letter b = is_ascii_alphabetic b || (b == byte "_")

-- a letter or a digit
unfoldable pub is_name_byte : ℕ → Bool
is_name_byte b = is_letter b || is_ascii_digit b

-- `"` or `'`
unfoldable pub is_quote : ℕ → Bool
is_quote b = (b == byte "\"") || (b == byte "'")

-- space, tab, line feed, vertical tab, form feed or carriage return
unfoldable pub is_space : ℕ → Bool
is_space b = (b == byte " ") || (nat_le (byte "\t") b && nat_le b (byte "\r"))

-- one of the language's symbols
unfoldable pub is_symbol : ℕ → Bool
is_symbol b = list_any (λ s. s == b) (codes "{}()[]<>;,=.:-+/")

-- a byte of a character past ASCII that isn't its first
unfoldable pub is_continuation : ℕ → Bool
is_continuation b = nat_le 128 b && nat_lt b 192

-- the class of a byte; no byte is of two
unfoldable pub class_of : ℕ → Class
class_of b =
    if is_letter b then Letter
    else (if is_ascii_digit b then Digit
    else (if is_quote b then Quote
    else (if is_space b then Space
    else (if is_symbol b then Symbol
    else Other))))
