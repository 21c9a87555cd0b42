-- How far a cursor is on its walk over a text: words for the scans, not for the crate's promises.
use Rattle.std.specs.Prelude.{◌≡◌, ℕ, ◌+◌, ◌-◌, ◌≤◌, List, ◌==◌, if◌then◌else◌, length, drop, IsUtf8}
use Rattle.std.specs.Str.{chars}
use Rattle.doc_text.specs.declared.encoding.Encoding.{Encoding}
use Rattle.doc_text.specs.declared.position.Position.{Position}
use Rattle.doc_text.specs.declared.cursor.Cursor.{Cursor}
use Rattle.doc_text.specs.Lines.{lines}
use Rattle.doc_text.specs.Positions.{position_in, position_of}

-- a position so many lines on, or in the same line so many units on
abbrev pub moved : ℕ → ℕ → Position → Position
moved line character p = record { line = line + p.line; character = if p.line == 0 then character + p.character else p.character }

-- The cursor stands between two characters of the text, at its position: later positions are found from there on.
pub record IsCursor (e : Encoding) (text : List ℕ) (c : Cursor) : Type 0 where
  pub in_range : c.at ≤ length text
  pub utf8 : IsUtf8 (drop c.at text)
  pub counted : c.position.line + c.position.character ≤ c.at
  pub onward : (offset : ℕ) → c.at ≤ offset →
      position_of e text offset ≡ moved c.position.line c.position.character (position_in e (lines (chars (drop c.at text))) (offset - c.at))

-- what a walk goes over
pub record Walked : Type 0 where
  pub encoding : Encoding
  pub text : List ℕ
