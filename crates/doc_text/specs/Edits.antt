-- Changes of a text (Language Server Protocol 3.17, "TextDocumentContentChangeEvent").
use Rattle.std.specs.Prelude.{ℕ, List, ◌++◌, min, max, take, drop, Option, Some, None}
use Rattle.std.specs.String.{string_bytes}
use Rattle.doc_text.specs.declared.encoding.Encoding.{Encoding}
use Rattle.doc_text.specs.declared.position.Range.{Range}
use Rattle.doc_text.specs.declared.change.Change.{Change}
use Rattle.doc_text.specs.Positions.{offset_of}

-- the bytes between the offsets of a range's two positions, the lesser first, replaced by new ones; without a range all bytes
unfoldable pub replaced : Encoding → Option Range → List ℕ → List ℕ → List ℕ
replaced e None text new = new
replaced e (Some r) text new =
    let a = offset_of e r.start text in
    let b = offset_of e r.end text in
    take (min a b) text ++ new ++ drop (max a b) text

-- a new text for a range of a text, or for the whole of it where there is no range
pub record ChangeData : Type 0 where
  pub range : Option Range
  pub text : List ℕ

-- a text after a change
abbrev pub edited : Encoding → Change → List ℕ → List ℕ
edited e change text = replaced e change.range text (string_bytes change.text)

-- ---- the Rust type beside this

abbrev pub change_view : Change → ChangeData
change_view c = record { range = c.range; text = string_bytes c.text }
