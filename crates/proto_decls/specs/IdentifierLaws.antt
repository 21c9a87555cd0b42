-- The names of a text, as what stands at their spans.
use Rattle.std.specs.Prelude.{ℕ, List, All, IsUtf8, MatchOption, ⊤}
use Rattle.proto_tree.specs.declared.node.Span.{Span}
use Rattle.proto_tree.specs.Identifiers.{AllIdentifiers, IsIdentifier}
use Rattle.proto_tree.specs.Read.{value_tree}
use Rattle.proto_decls.specs.Facts.{facts_of}
use Rattle.proto_decls.specs.Text.{text_at}

-- an identifier stands at the span
abbrev pub IsIdentifierIn : List ℕ → Span → Type 0
IsIdentifierIn text s = IsIdentifier (text_at text s)

-- an identifier stands at each name that the statements of a text declare, and at each component of the names of its types
-- and packages
abbrev pub HasIdentifiers : List ℕ → Type 0
HasIdentifiers text = let tree = value_tree text in AllIdentifiers (IsIdentifierIn text) tree.nodes

-- so it is in UTF-8 text
abbrev pub NamesAreIdentifiers : Type 0
NamesAreIdentifiers = (text : List ℕ) → IsUtf8 text → HasIdentifiers text

-- and at each component of the package that the facts have
abbrev pub PackagesAreIdentifiers : Type 0
PackagesAreIdentifiers = (text : List ℕ) → IsUtf8 text → MatchOption (facts_of text).«package» ⊤ (λ p. All (IsIdentifierIn text) p.components)
