-- The laws of the places of a declaration: where its name stands, and where it is used.
use Rattle.std.specs.Prelude.{◌≡◌, ◌⊎◌, ℕ, ◌<◌, ◌≤◌, List, Bool, All, IsUtf8, length, slice_index_or}
use Rattle.std.specs.List.{AllPairs}
use Rattle.proto_names.specs.declared.decl_ref.DeclRef.{DeclRef}
use Rattle.work_index.specs.Workspace.{Source, SourceAt, Workspace, analysis, no_file}
use Rattle.lsp_queries.specs.Answers.{own_place, sites_of}
use Rattle.lsp_queries.specs.declared.place.Place.{Place}

-- where a declaration is used, with its own place among them if that is asked for
abbrev pub places_of : Workspace → DeclRef → Bool → List Place
places_of w r include_declaration = sites_of (analysis w) r (own_place (analysis w) r include_declaration)

-- in a file before it, or in the same file at a lower offset
abbrev pub IsBefore : Place → Place → Type 0
IsBefore p q = (p.file < q.file) ⊎ ((p.file ≡ q.file) × (p.start < q.start))

-- the places come by file, then offset, and none of them twice
abbrev pub PlacesAscend : Type 0
PlacesAscend = (w : Workspace) (r : DeclRef) (include_declaration : Bool) → AllPairs IsBefore (places_of w r include_declaration)

-- of two places in one file the first ends before the second starts, with a byte at least between them
abbrev pub IsApart : Place → Place → Type 0
IsApart p q = p.file ≡ q.file → p.«end» < q.start

abbrev pub PlacesAreApart : Type 0
PlacesAreApart = (w : Workspace) (r : DeclRef) (include_declaration : Bool) → AllPairs IsApart (places_of w r include_declaration)

-- the text of a file, with whether it is read if it isn't proto3, and the text alone
abbrev pub source_in : Workspace → ℕ → Source
source_in w file = let found : SourceAt = slice_index_or w file no_file in found.1

abbrev pub text_in : Workspace → ℕ → List ℕ
text_in w file = let s = source_in w file in s.text

-- the place has a byte or more, all of them in the text of its file
pub record LiesInItsText (w : Workspace) (p : Place) : Type 0 where
  pub there : p.file < length w
  pub some : p.start < p.«end»
  pub within : p.«end» ≤ length (text_in w p.file)

-- so it is where the texts are UTF-8
abbrev pub PlacesLieInTheTexts : Type 0
PlacesLieInTheTexts =
    (w : Workspace) (r : DeclRef) (include_declaration : Bool) → All (λ file. IsUtf8 file.1.text) w → All (LiesInItsText w) (places_of w r include_declaration)
