-- Positions in a text, a line and a number of units in it, and byte offsets (Language Server Protocol 3.17, "Position").
use Rattle.std.specs.Prelude.{ℕ, ◌+◌, ◌-◌, List, [], ◌∷◌, nat_lt, if◌then◌else◌, length, take, slice_index_or}
use Rattle.std.specs.List.{concat}
use Rattle.std.specs.Char.{encode_utf8}
use Rattle.std.specs.Char.Escape.{encode_utf16}
use Rattle.std.specs.Str.{chars}
use Rattle.doc_text.specs.declared.encoding.Encoding.{Encoding}
use Rattle.doc_text.specs.declared.encoding.Encoding.TheVariants.{Utf16, Utf8, Utf32}
use Rattle.doc_text.specs.declared.position.Position.{Position}
use Rattle.doc_text.specs.Lines.{lines, content}

-- the units of a character: UTF-16 code units, bytes, or characters
abbrev pub char_units : Encoding → ℕ → ℕ
char_units Utf16 c = length (encode_utf16 c)
char_units Utf8 c = length (encode_utf8 c)
char_units Utf32 c = 1

-- the units of a list of characters; in Utf8 its bytes
abbrev pub units : Encoding → List ℕ → ℕ
units e [] = 0
units e (c ∷ cs) = char_units e c + units e cs

-- the longest run of whole characters at the front that has at most n units
abbrev pub fitting : Encoding → ℕ → List ℕ → List ℕ
fitting e n [] = []
fitting e n (c ∷ cs) = if nat_lt n (char_units e c) then [] else c ∷ fitting e (n - char_units e c) cs

-- Position to offset, in a list of lines: the bytes of the lines before, and those of the longest run of whole
-- characters of the line, its line end left out, that has at most `character` units. Past the last line, all bytes.
abbrev pub offset_in : Encoding → ℕ → ℕ → List (List ℕ) → ℕ
offset_in e line character ls =
    units Utf8 (concat (take line ls)) + units Utf8 (fitting e character (content (slice_index_or ls line [])))

-- the byte offset of a position in a text
unfoldable pub offset_of : Encoding → Position → List ℕ → ℕ
offset_of e p text = offset_in e p.line p.character (lines (chars text))

abbrev pub next_line : Position → Position
next_line p = record { line = 1 + p.line; character = p.character }

-- in the first line: the units of its characters, its line end left out, that end at or before an offset
abbrev pub in_line : Encoding → List ℕ → ℕ → Position
in_line e l offset = record { line = 0; character = units e (fitting Utf8 offset (content l)) }

-- Offset to position, in a list of lines: the same in the line that holds the byte at the offset, or in the last
-- line if none does.
abbrev pub position_in : Encoding → List (List ℕ) → ℕ → Position
position_in e [] offset = record { line = 0; character = 0 }
position_in e (l ∷ []) offset = in_line e l offset
position_in e (l ∷ m ∷ ls) offset =
    if nat_lt offset (units Utf8 l) then in_line e l offset else next_line (position_in e (m ∷ ls) (offset - units Utf8 l))

-- the position of a byte offset in a text
unfoldable pub position_of : Encoding → List ℕ → ℕ → Position
position_of e text offset = position_in e (lines (chars text)) offset
