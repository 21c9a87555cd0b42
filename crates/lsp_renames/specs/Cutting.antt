-- Places that can be cut out of their texts, and the texts that are made so.
use Rattle.std.specs.Prelude.{◌≡◌, ℕ, ◌≤◌, ◌<◌, List, [], ◌∷◌, Bool, All, IsCharBoundary, IsUtf8, length, map, slice_index_or}
use Rattle.std.specs.List.{AllPairs}
use Rattle.proto_names.specs.declared.decl_ref.DeclRef.{DeclRef}
use Rattle.work_index.specs.Workspace.{AnalysisData, Workspace, analysis, texts_of}
use Rattle.lsp_renames.specs.ByFile.{by_file}
use Rattle.lsp_renames.specs.Edited.{respelled}
use Rattle.lsp_queries.specs.PlaceLaws.{places_of}
use Rattle.lsp_queries.specs.declared.place.Place.{Place}

-- the place starts and ends between two characters of the text
pub record IsCut (text : List ℕ) (p : Place) : Type 0 where
  pub ordered : p.start ≤ p.«end»
  pub first : IsCharBoundary text p.start
  pub second : IsCharBoundary text p.«end»

-- in a file before it, or in the same file and ended where it starts
pub record EndsBefore (p q : Place) : Type 0 where
  pub files : p.file ≤ q.file
  pub apart : p.file ≡ q.file → p.«end» ≤ q.start

-- the places are in order, none overlaps another, and each can be cut out of the text of its file, if that is UTF-8
pub record AreCutOut (a : AnalysisData) (places : List Place) : Type 0 where
  pub there : All (λ p. p.file < length a.paths) places
  pub cut : All (λ p. IsUtf8 (slice_index_or (texts_of a.sources) p.file []) → IsCut (slice_index_or (texts_of a.sources) p.file []) p) places
  pub ordered : AllPairs EndsBefore places

-- of a text from an offset on, each of the places can be cut out in turn
abbrev pub CanBeCut : List ℕ → ℕ → List Place → Type 0
CanBeCut text offset [] = IsCharBoundary text offset
CanBeCut text offset (p ∷ more) = IsCharBoundary text offset × (offset ≤ p.start) × IsCut text p × CanBeCut text p.«end» more

-- for each file in which there are places its text with the name at these
abbrev pub edits_of : List ℕ → List (List ℕ) → List Place → List (ℕ × List ℕ)
edits_of name texts places = map (λ g. (g.0, respelled name (slice_index_or texts g.0 []) g.1)) (by_file places)

-- so it is with the places of a declaration
abbrev pub PlacesAreCutOut : Type 0
PlacesAreCutOut = (w : Workspace) (r : DeclRef) (include_declaration : Bool) → AreCutOut (analysis w) (places_of w r include_declaration)
