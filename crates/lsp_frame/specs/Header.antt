-- A frame's header part and what it says of the body's length (Language Server Protocol 3.17, base protocol).
use Rattle.std.specs.Prelude.{ℕ, ◌+◌, ◌-◌, Bool, ◌&&◌, ◌||◌, not, List, [], ◌∷◌, ◌++◌, length, take, drop, nat_eq, nat_lt, nat_le, ◌==◌, if◌then◌else◌, Option, Some, None, Result, Ok, Err, codes}
use Rattle.std.specs.List.{starts_with, ends_with, position, prefix_len, suffix_len, take_while, list_all}
use Rattle.std.specs.Option.{option_or}
use Rattle.std.specs.Char.{is_ascii_digit}
use Rattle.std.specs.Str.{str_eq_ignore_ascii_case}
use Rattle.std.specs.Str.Parse.{digits_value}
use Rattle.lsp_frame.specs.declared.fault.FrameFault.{FrameFault}
use Rattle.lsp_frame.specs.declared.fault.FrameFault.TheVariants.{BadHeader, NoLength, BadLength, BodyTooLong}

infixl 10 ◌>>=◌
abbrev pub ◌>>=◌ : {A B : Type 0} → Result A FrameFault → (A → Result B FrameFault) → Result B FrameFault
(Ok x) >>= f = f x
(Err e) >>= f = Err e

-- `\r\n`, which ends a line
abbrev pub line_end : List ℕ
line_end = 13 ∷ 10 ∷ []

-- The test of a header part at the front of a stream: the front of some length that passes, where no shorter one
-- does, is the header part. It ends with `\r\n\r\n`, or begins with `\r\n`.
abbrev pub is_whole_header : List ℕ → Bool
is_whole_header bytes = starts_with nat_eq bytes line_end || ends_with nat_eq bytes (line_end ++ line_end)

-- a byte in front of the stretches between line ends: where it is a `\r` before a `\n`, a line ends there
abbrev pub prepend_byte : ℕ → List (List ℕ) → List (List ℕ)
prepend_byte b [] = (b ∷ []) ∷ []
prepend_byte b (line ∷ lines) = if b == 13 && starts_with nat_eq line (10 ∷ []) then [] ∷ drop 1 line ∷ lines else (b ∷ line) ∷ lines

-- the stretches of the bytes between their line ends
abbrev pub between_line_ends : List ℕ → List (List ℕ)
between_line_ends [] = [] ∷ []
between_line_ends (b ∷ bytes) = prepend_byte b (between_line_ends bytes)

-- the line holds a byte or more
abbrev pub is_some_line : List ℕ → Bool
is_some_line line = nat_lt 0 (length line)

-- the lines of a header part: those before the empty one that closes it
abbrev pub header_lines : List ℕ → List (List ℕ)
header_lines header = take_while is_some_line (between_line_ends header)

abbrev pub is_colon : ℕ → Bool
is_colon b = b == 58

abbrev pub is_space : ℕ → Bool
is_space b = b == 32

-- without the spaces at the front, and at the end
abbrev pub without_first_spaces : List ℕ → List ℕ
without_first_spaces bytes = drop (prefix_len is_space bytes) bytes

abbrev pub without_last_spaces : List ℕ → List ℕ
without_last_spaces bytes = take (length bytes - suffix_len is_space bytes) bytes

-- 1 to 10 decimal digits
abbrev pub is_length : List ℕ → Bool
is_length value = nat_lt 0 (length value) && nat_le (length value) 10 && list_all is_ascii_digit value

-- the length that a field gives, if it is a `Content-Length`
abbrev pub field_length : List ℕ → List ℕ → Result (Option ℕ) FrameFault
field_length name value =
    if not (str_eq_ignore_ascii_case name (codes "Content-Length")) then Ok None
    else (if is_length value then Ok (Some (digits_value 10 value)) else Err BadLength)

-- a line is a name, its first `:` and a value, whose spaces on both sides don't count
abbrev pub length_at : List ℕ → Option ℕ → Result (Option ℕ) FrameFault
length_at line None = Err BadHeader
length_at line (Some colon) =
    if colon == 0 then Err BadHeader else field_length (take colon line) (without_last_spaces (without_first_spaces (drop (colon + 1) line)))

-- the `Content-Length` of a line, if it is one
abbrev pub content_length : List ℕ → Result (Option ℕ) FrameFault
content_length line = length_at line (position is_colon line)

-- the last length that the lines give, or their first fault
abbrev pub last_length : List (List ℕ) → Result (Option ℕ) FrameFault
last_length [] = Ok None
last_length (line ∷ lines) = content_length line >>= λ here. last_length lines >>= λ later. Ok (option_or later here)

-- the longest body: 64 MiB
abbrev pub max_body : ℕ
max_body = 67108864

abbrev pub allowed_length : Option ℕ → Result ℕ FrameFault
allowed_length None = Err NoLength
allowed_length (Some n) = if nat_lt max_body n then Err BodyTooLong else Ok n

-- the length of the body that a header part announces
abbrev pub body_length : List ℕ → Result ℕ FrameFault
body_length header = last_length (header_lines header) >>= allowed_length
