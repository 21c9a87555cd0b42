-- The kind of token that bytes are, if they are one: the forms of tokens as tests.
use Rattle.std.specs.Prelude.{ℕ, List, [], ◌∷◌, Bool, true, false, not, ◌&&◌, ◌||◌, ◌==◌, nat_le, Option, Some, None, is_none, if◌then◌else◌}
use Rattle.std.specs.Bool.{then_some}
use Rattle.std.specs.Char.{is_ascii_digit}
use Rattle.std.specs.List.{list_all}
use Rattle.std.specs.Str.{byte}
use Rattle.proto_lex.specs.declared.bytes.Class.{Class}
use Rattle.proto_lex.specs.declared.bytes.Class.TheVariants as class
use Rattle.proto_lex.specs.declared.token.Kind.{Kind}
use Rattle.proto_lex.specs.declared.token.Kind.TheVariants.{Ident, Str, Symbol, Bad}
use Rattle.proto_lex.specs.declared.token.Reason.TheVariants.{Character, String, Comment}
use Rattle.proto_lex.specs.Bytes.{class_of, is_name_byte, is_continuation}
use Rattle.proto_lex.specs.Numbers.{is_hex, continues_run, number_kind}
use Rattle.proto_lex.specs.Trivia.{comment_len}

-- each byte goes on with the number, the first of them after `before`
abbrev pub is_run_rest : Bool → ℕ → List ℕ → Bool
is_run_rest hex before [] = true
is_run_rest hex before (b ∷ bs) = continues_run hex before b && is_run_rest hex b bs

-- the bytes may follow an opening quote q, up to the closing one or without it
abbrev pub is_string_rest : ℕ → Bool → List ℕ → Bool
is_string_rest q closed [] = not closed
is_string_rest q closed (b ∷ []) = if closed then b == q else (not (b == q) && not (b == byte "\n"))
is_string_rest q closed (b ∷ c ∷ bs) =
    ((not (b == q) && (not (b == byte "\\") && not (b == byte "\n"))) && is_string_rest q closed (c ∷ bs))
    || ((b == byte "\\") && (not (c == byte "\n") && is_string_rest q closed bs))

-- the kind of b and the bytes after it, where b begins a number
abbrev pub number_run_kind : ℕ → List ℕ → Option Kind
number_run_kind b bs = then_some (is_run_rest (is_hex (b ∷ bs)) b bs) (number_kind (b ∷ bs))

-- the kind of a quote and the bytes after it
abbrev pub string_kind : ℕ → List ℕ → Option Kind
string_kind q bs = if is_string_rest q true bs then Some Str else then_some (is_string_rest q false bs) (Bad String)

-- the kind of a symbol and the bytes after it: itself alone, a number from its dot on, or `/*` without `*/`
abbrev pub symbol_kind : ℕ → List ℕ → Option Kind
symbol_kind b [] = Some Symbol
symbol_kind b (c ∷ bs) =
    if (b == byte ".") && is_ascii_digit c then number_run_kind b (c ∷ bs)
    else then_some ((b == byte "/") && ((c == byte "*") && is_none (comment_len bs))) (Bad Comment)

-- the kind of a byte that begins nothing else and the bytes after it: those of one character
abbrev pub other_kind : ℕ → List ℕ → Option Kind
other_kind b [] = Some (Bad Character)
other_kind b (c ∷ bs) = then_some (nat_le 128 b && list_all is_continuation (c ∷ bs)) (Bad Character)

-- the kind of b and the bytes after it, by what b begins
abbrev pub kind_from : Class → ℕ → List ℕ → Option Kind
kind_from class.Letter b bs = then_some (list_all is_name_byte bs) Ident
kind_from class.Digit b bs = number_run_kind b bs
kind_from class.Quote b bs = string_kind b bs
kind_from class.Space b bs = None
kind_from class.Symbol b bs = symbol_kind b bs
kind_from class.Other b bs = other_kind b bs

-- the kind of the bytes, if all of them are one token
abbrev pub kind_of : List ℕ → Option Kind
kind_of [] = None
kind_of (b ∷ bs) = kind_from (class_of b) b bs
