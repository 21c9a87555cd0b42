-- Identifiers, and the names of a text that are made of them.
use Rattle.std.specs.Prelude.{ℕ, ◌≤◌, List, All, IsUtf8, IsCharBoundary, slice_range}
use Rattle.proto_lex.specs.declared.token.Kind.TheVariants.{Ident}
use Rattle.proto_lex.specs.Forms.{IsForm}
use Rattle.proto_tree.specs.declared.node.Node.{Node}
use Rattle.proto_tree.specs.declared.node.Span.{Span}
use Rattle.proto_tree.specs.Names.{names_in, type_components_in, package_components_in}
use Rattle.proto_tree.specs.Read.{read}

-- an ASCII letter or an underscore, and then ASCII letters, digits and underscores alone
abbrev pub IsIdentifier : List ℕ → Type 0
IsIdentifier name = IsForm Ident name

-- the bytes of the span are an identifier, and UTF-8 text may be cut at its ends
pub record IsIdentifierAt (text : List ℕ) (s : Span) : Type 0 where
  pub ordered : s.start ≤ s.«end»
  pub bytes : IsIdentifier (slice_range text s.start s.«end»)
  pub cut : IsUtf8 text → IsCharBoundary text s.start × IsCharBoundary text s.«end»

-- this holds of each identifier that a name is made of: of each name that a statement declares, and of each component of a
-- type name and of a package's name
pub record AllIdentifiers (Holds : Span → Type 0) (nodes : List Node) : Type 0 where
  pub names : All Holds (names_in nodes)
  pub types : All Holds (type_components_in nodes)
  pub packages : All Holds (package_components_in nodes)

-- the names of a text are identifiers of the text
abbrev pub NamesAreIdentifiers : Type 0
NamesAreIdentifiers = (text : List ℕ) → AllIdentifiers (IsIdentifierAt text) (read text).nodes
