-- The grammar of a header part: lines, each with its end, and an empty line.
use Rattle.std.specs.Prelude.{◌≡◌, ℕ, ◌+◌, ◌<◌, ◌≤◌, List, [], ◌∷◌, ◌++◌, length, take, get_or, Some, ⊤}
use Rattle.std.specs.List.{flat_map}
use Rattle.lsp_frame.specs.Header.{line_end, header_lines}
use Rattle.lsp_frame.specs.Stream.{max_header, header_len}

-- no `\r\n` stands in the bytes
abbrev pub HasNoLineEnd : List ℕ → Type 0
HasNoLineEnd bytes = (k : ℕ) → k + 1 < length bytes → get_or bytes k 0 ≡ 13 → get_or bytes (k + 1) 0 ≡ 10 → ⊥

abbrev pub IsLine : List ℕ → Type 0
IsLine line = (0 < length line) × HasNoLineEnd line

abbrev pub AreLines : List (List ℕ) → Type 0
AreLines [] = ⊤
AreLines (line ∷ lines) = IsLine line × AreLines lines

-- the header part that these lines make
abbrev pub header_of : List (List ℕ) → List ℕ
header_of lines = flat_map (λ line. line ++ line_end) lines ++ line_end

-- a header part that lines make has these lines
abbrev pub HeadersHaveTheirLines : Type 0
HeadersHaveTheirLines = (lines : List (List ℕ)) → AreLines lines → header_lines (header_of lines) ≡ lines

-- a header part at the front of a stream is found, unless it is too long
abbrev pub HeadersAreFound : Type 0
HeadersAreFound = (lines : List (List ℕ)) (rest : List ℕ) → AreLines lines → length (header_of lines) ≤ max_header → header_len (header_of lines ++ rest) ≡ Some (length (header_of lines))

-- what is found is a header part that lines make
abbrev pub OnlyHeadersAreFound : Type 0
OnlyHeadersAreFound = (bytes : List ℕ) (n : ℕ) → header_len bytes ≡ Some n → AreLines (header_lines (take n bytes)) × (take n bytes ≡ header_of (header_lines (take n bytes)))
