-- What the definitions of lines, positions and changes come to, in the protocol's own words.
use Rattle.std.specs.Prelude.{◌≡◌, ◌≢◌, ◌⊎◌, ℕ, ◌+◌, ◌-◌, ◌<◌, ◌≤◌, List, [], ◌∷◌, ◌++◌, length, take, drop, slice_index, slice_index_or, Option, Some, None, IsUtf8, IsCharBoundary}
use Rattle.std.specs.List.{concat}
use Rattle.std.specs.Str.{NonePass, chars}
use Rattle.doc_text.specs.declared.encoding.Encoding.{Encoding}
use Rattle.doc_text.specs.declared.position.Position.{Position}
use Rattle.doc_text.specs.declared.position.Range.{Range}
use Rattle.doc_text.specs.Lines.{content, is_lf_or_cr, lines}
use Rattle.doc_text.specs.Positions.{units, fitting, offset_of, position_of}
use Rattle.doc_text.specs.Edits.{replaced}

-- Lines

-- `\r\n`, `\n`, or a `\r` without a `\n` after it
abbrev pub IsLineEnd : List ℕ → List ℕ → Type 0
IsLineEnd end after = (end ≡ 13 ∷ 10 ∷ []) ⊎ ((end ≡ 10 ∷ []) ⊎ ((end ≡ 13 ∷ []) × (slice_index after 0 ≢ 10)))

-- no line end among the characters
abbrev pub IsPlain : List ℕ → Type 0
IsPlain cs = NonePass is_lf_or_cr cs

-- the first line: plain characters and a line end
pub record IsEndedLine (l cs after : List ℕ) : Type 0 where
  pub body : List ℕ
  pub end : List ℕ
  pub is : l ≡ body ++ end
  pub whole : cs ≡ body ++ end ++ after
  pub plain : IsPlain body
  pub ended : IsLineEnd end after

-- the characters cut into lines, each but the last with its line end
abbrev pub AreLines : List ℕ → List (List ℕ) → Type 0
AreLines cs [] = ⊥
AreLines cs (l ∷ []) = (l ≡ cs) × IsPlain l
AreLines cs (l ∷ m ∷ ls) = (after : List ℕ) × IsEndedLine l cs after × AreLines after (m ∷ ls)

-- a text is cut in one way
abbrev pub LinesAreTheCut : Type 0
LinesAreTheCut = (cs : List ℕ) → AreLines cs (lines cs) × ((ls : List (List ℕ)) → AreLines cs ls → ls ≡ lines cs)

-- the lines, joined, are the text
abbrev pub LinesJoinedAreTheText : Type 0
LinesJoinedAreTheText = (cs : List ℕ) → concat (lines cs) ≡ cs

-- Positions

-- the run stands at the front, has at most n units, and each longer one has more
pub record IsLongestRun (e : Encoding) (n : ℕ) (cs run : List ℕ) : Type 0 where
  pub rest : List ℕ
  pub front : cs ≡ run ++ rest
  pub fits : units e run ≤ n
  pub longest : (k : ℕ) → length run < k → k ≤ length cs → n < units e (take k cs)

abbrev pub FittingIsLongest : Type 0
FittingIsLongest = (e : Encoding) (n : ℕ) (cs : List ℕ) → IsLongestRun e n cs (fitting e n cs)

-- the offset stands between the two bytes of a `\r\n`
abbrev pub IsInsideLineEnd : List ℕ → ℕ → Type 0
IsInsideLineEnd text offset = (0 < offset) × (slice_index text (offset - 1) ≡ 13) × (slice_index text offset ≡ 10)

-- the position of an offset between two characters has that offset, but inside a line end
abbrev pub PositionsComeBack : Type 0
PositionsComeBack = (e : Encoding) (text : List ℕ) (offset : ℕ) → IsUtf8 text → IsCharBoundary text offset → (IsInsideLineEnd text offset → ⊥)
    → offset_of e (position_of e text offset) text ≡ offset

-- the text has the line, and the line has as many units or more before its line end
abbrev pub IsInTheText : Encoding → Position → List ℕ → Type 0
IsInTheText e p text = let ls = lines (chars text) in (p.line < length ls) × (p.character ≤ units e (content (slice_index_or ls p.line [])))

-- the position of any offset lies in the text
abbrev pub PositionsAreInTheText : Type 0
PositionsAreInTheText = (e : Encoding) (text : List ℕ) (offset : ℕ) → IsInTheText e (position_of e text offset) text

-- the text has the line, and the character counts the units of some of the line's first characters, its line end left out
abbrev pub StandsBetweenCharacters : Encoding → Position → List ℕ → Type 0
StandsBetweenCharacters e p text =
    let ls = lines (chars text) in (p.line < length ls) × ((k : ℕ) × (p.character ≡ units e (take k (content (slice_index_or ls p.line [])))))

-- the position of any offset stands between two characters
abbrev pub PositionsStandBetweenCharacters : Type 0
PositionsStandBetweenCharacters = (e : Encoding) (text : List ℕ) (offset : ℕ) → StandsBetweenCharacters e (position_of e text offset) text

-- a position between two characters is the position of its own offset
abbrev pub OffsetsComeBack : Type 0
OffsetsComeBack = (e : Encoding) (p : Position) (text : List ℕ) → StandsBetweenCharacters e p text → position_of e text (offset_of e p text) ≡ p

-- a position past the last line has the text's end
abbrev pub PositionsPastAreTheEnd : Type 0
PositionsPastAreTheEnd = (e : Encoding) (p : Position) (text : List ℕ) → IsUtf8 text → length (lines (chars text)) ≤ p.line → offset_of e p text ≡ length text

-- an offset past the text counts as its end
abbrev pub OffsetsPastAreTheEnd : Type 0
OffsetsPastAreTheEnd = (e : Encoding) (text : List ℕ) (offset : ℕ) → IsUtf8 text → length text ≤ offset → position_of e text offset ≡ position_of e text (length text)

-- an offset inside a character has the position of its start
abbrev pub OffsetsGoBack : Type 0
OffsetsGoBack = (e : Encoding) (text : List ℕ) (start n : ℕ) → IsUtf8 text → IsCharBoundary text start
    → ((k : ℕ) → start < k → k ≤ start + n → IsCharBoundary text k → ⊥)
    → position_of e text (start + n) ≡ position_of e text start

-- an offset inside a line end has the position of the line's end
abbrev pub OffsetsInLineEnds : Type 0
OffsetsInLineEnds = (e : Encoding) (text : List ℕ) (offset : ℕ) → IsUtf8 text → IsInsideLineEnd text offset → position_of e text offset ≡ position_of e text (offset - 1)

-- Changes

-- the offsets of a range's two positions, the lesser first, both between two characters of the text
pub record AreEnds (e : Encoding) (r : Range) (text : List ℕ) (a b : ℕ) : Type 0 where
  pub ordered : a ≤ b
  pub first : IsCharBoundary text a
  pub second : IsCharBoundary text b
  pub ends : ((a ≡ offset_of e r.start text) × (b ≡ offset_of e r.end text)) ⊎ ((a ≡ offset_of e r.end text) × (b ≡ offset_of e r.start text))

-- a change of a range keeps what stands before it and what stands behind it
abbrev pub ChangesKeepTheRest : Type 0
ChangesKeepTheRest = (e : Encoding) (r : Range) (text new : List ℕ) → IsUtf8 text
    → (a : ℕ) × (b : ℕ) × AreEnds e r text a b × (replaced e (Some r) text new ≡ take a text ++ new ++ drop b text)

-- a change without a range replaces the whole text
abbrev pub ChangesOfTheWhole : Type 0
ChangesOfTheWhole = (e : Encoding) (text new : List ℕ) → replaced e None text new ≡ new

-- a range turned round means the same bytes
abbrev pub RangesTurnedRound : Type 0
RangesTurnedRound = (e : Encoding) (r : Range) (text new : List ℕ)
    → replaced e (Some (record { start = r.end; end = r.start })) text new ≡ replaced e (Some r) text new

-- a changed text is UTF-8 again
abbrev pub ChangesKeepUtf8 : Type 0
ChangesKeepUtf8 = (e : Encoding) (r : Option Range) (text new : List ℕ) → IsUtf8 text → IsUtf8 new → IsUtf8 (replaced e r text new)
