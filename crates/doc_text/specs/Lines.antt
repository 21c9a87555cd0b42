-- The lines of a text, as a list of its characters (Language Server Protocol 3.17, "Text Documents": `\n`, `\r\n` and `\r` end a line).
use Rattle.std.specs.Prelude.{ℕ, Bool, List, [], ◌∷◌, ◌||◌, ◌&&◌, ◌==◌, not, if◌then◌else◌, slice_index}

-- a character that only a line end holds: a line feed or a carriage return
abbrev pub is_lf_or_cr : ℕ → Bool
is_lf_or_cr c = (c == 10) || (c == 13)

-- A line ends behind a line feed, and behind a carriage return that no line feed follows.
abbrev pub ends_line : ℕ → List ℕ → Bool
ends_line c following = (c == 10) || ((c == 13) && not (slice_index following 0 == 10))

-- the character c in front of the first line
abbrev pub onto_first : ℕ → List (List ℕ) → List (List ℕ)
onto_first c [] = (c ∷ []) ∷ []
onto_first c (l ∷ ls) = (c ∷ l) ∷ ls

-- The characters cut behind each line end: the lines, each but the last with its line end.
abbrev pub lines : List ℕ → List (List ℕ)
lines [] = [] ∷ []
lines (c ∷ cs) = if ends_line c cs then (c ∷ []) ∷ lines cs else onto_first c (lines cs)

-- a line without its line end
abbrev pub content : List ℕ → List ℕ
content [] = []
content (c ∷ cs) = if is_lf_or_cr c then [] else c ∷ content cs
