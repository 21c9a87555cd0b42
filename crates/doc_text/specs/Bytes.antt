-- What single bytes of a text say, and lines counted in bytes: words for the scans, not for the crate's promises.
use Rattle.std.specs.Prelude.{ℕ, zero, suc, ◌+◌, List, [], ◌∷◌, ◌&&◌, nat_le, nat_lt, Bool, if◌then◌else◌, length, take}
use Rattle.std.specs.List.{concat}
use Rattle.std.specs.Str.{continuation_len}
use Rattle.doc_text.specs.declared.encoding.Encoding.{Encoding}
use Rattle.doc_text.specs.declared.encoding.Encoding.TheVariants.{Utf16, Utf8, Utf32}
use Rattle.doc_text.specs.Lines.{ends_line, lines}

-- an ASCII character from the space on
abbrev pub is_simple : ℕ → Bool
is_simple b = nat_le 32 b && nat_lt b 128

-- the bytes of a character that begins with this byte
abbrev pub lead_len : ℕ → ℕ
lead_len b = 1 + continuation_len b

-- its units
abbrev pub lead_units : Encoding → ℕ → ℕ
lead_units Utf16 b = if nat_lt b 240 then 1 else 2
lead_units Utf8 b = lead_len b
lead_units Utf32 b = 1

-- how many of the first n bytes end a line
unfoldable pub line_end_count : ℕ → List ℕ → ℕ
line_end_count zero bs = 0
line_end_count (suc n) [] = 0
line_end_count (suc n) (b ∷ bs) = (if ends_line b bs then 1 else 0) + line_end_count n bs

-- the bytes of the lines before a line, or of all lines if it lies past the last one
unfoldable pub line_offset : ℕ → List ℕ → ℕ
line_offset line bs = length (concat (take line (lines bs)))
