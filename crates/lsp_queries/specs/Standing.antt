-- The laws of what stands at an offset, and of all the places at which a declaration stands.
use Rattle.std.specs.Prelude.{◌≡◌, ◌↔◌, ℕ, ◌≤◌, List, Bool, true, Some, Contains}
use Rattle.std.specs.List.{AllPairs, slice_get}
use Rattle.proto_tree.specs.declared.node.Span.{Span}
use Rattle.proto_decls.specs.declared.fact.Decl.{Decl}
use Rattle.proto_decls.specs.declared.fact.FileFacts.{FileFacts}
use Rattle.proto_decls.specs.declared.fact.PackageFact.{PackageFact}
use Rattle.proto_names.specs.declared.decl_ref.DeclRef.{DeclRef}
use Rattle.proto_resolve.specs.declared.resolve.Links.{Links}
use Rattle.proto_resolve.specs.declared.target.Target.TheVariants as target
use Rattle.proto_resolve.specs.declared.uses.NameUse.{NameUse}
use Rattle.work_index.specs.Workspace.{AnalysisData, Workspace, analysis}
use Rattle.lsp_queries.specs.Files.{place}
use Rattle.lsp_queries.specs.Offsets.{symbol_at}
use Rattle.lsp_queries.specs.declared.offsets.Symbol.{Symbol}
use Rattle.lsp_queries.specs.declared.offsets.Symbol.TheVariants.{Declared, Package}
use Rattle.lsp_queries.specs.declared.place.Place.{Place}
use Rattle.lsp_queries.specs.PlaceLaws.{IsBefore, places_of}

-- ---- the names of a file

module _ (a : AnalysisData) (file : ℕ) where
  -- the declaration of the file with that number
  abbrev pub HasDecl : ℕ → Decl → Type 0
  HasDecl number d = (facts : FileFacts) × (slice_get a.facts file ≡ Some facts) × (slice_get facts.decls number ≡ Some d)

  -- a use: a component of a name that means something, with what is found at the full name up to it
  abbrev pub HasUse : NameUse → Type 0
  HasUse u = (links : Links) × (slice_get a.links file ≡ Some links) × Contains links.uses u

  -- a component of the `package` statement that counts
  abbrev pub HasComponent : Span → Type 0
  HasComponent s = (facts : FileFacts) × (p : PackageFact) × (slice_get a.facts file ≡ Some facts) × (facts.«package» ≡ Some p) × Contains p.components s

  -- a name stands there: a declared one, one that is used, or one of the package
  pub data IsNameSpan : Span → Type 0 where
    of_decl : {number : ℕ} {d : Decl} → HasDecl number d → IsNameSpan d.name_span
    of_use : {u : NameUse} → HasUse u → IsNameSpan u.span
    of_package : {s : Span} → HasComponent s → IsNameSpan s

-- ---- what stands at an offset

-- the offset lies in the span, or at its end
abbrev pub Holds : ℕ → Span → Type 0
Holds offset s = (s.start ≤ offset) × (offset ≤ s.«end»)

-- What stands at the offset of a file: at a declared name that very declaration; at a use what is found there, a declaration or a
-- package; at a component of the file's own package a package.
pub data StandsAt (a : AnalysisData) (file offset : ℕ) : Symbol → Type 0 where
  declared : {number : ℕ} {d : Decl} → HasDecl a file number d → Holds offset d.name_span → StandsAt a file offset (Declared (record { file = file; number = number }))
  used : {u : NameUse} {r : DeclRef} → HasUse a file u → Holds offset u.span → u.target ≡ target.Declared r → StandsAt a file offset (Declared r)
  used_package : {u : NameUse} {name : List ℕ} → HasUse a file u → Holds offset u.span → u.target ≡ target.Package name → StandsAt a file offset Package
  own_package : {s : Span} → HasComponent a file s → Holds offset s → StandsAt a file offset Package

-- at most one name of a file stands at an offset
abbrev pub OneNameHolds : Type 0
OneNameHolds = (w : Workspace) (file offset : ℕ) (s t : Span) → IsNameSpan (analysis w) file s → IsNameSpan (analysis w) file t → Holds offset s → Holds offset t → s ≡ t

-- the symbol at an offset is what stands there, and without one nothing does
abbrev pub SymbolsStandThere : Type 0
SymbolsStandThere = (w : Workspace) (file offset : ℕ) (s : Symbol) → (symbol_at (analysis w) file offset ≡ Some s) ↔ StandsAt (analysis w) file offset s

-- ---- where a declaration stands

-- A place of a declaration: that of its own name, if that is asked for, or that of a use in any file for which it is found.
pub data IsPlaceOf (a : AnalysisData) (r : DeclRef) (include_declaration : Bool) (p : Place) : Type 0 where
  by_name : {d : Decl} → include_declaration ≡ true → HasDecl a r.file r.number d → p ≡ place r.file d.name_span → IsPlaceOf a r include_declaration p
  by_use : {file : ℕ} {u : NameUse} → HasUse a file u → u.target ≡ target.Declared r → p ≡ place file u.span → IsPlaceOf a r include_declaration p

-- the places of a declaration are all of these, and no others
abbrev pub PlacesAreAll : Type 0
PlacesAreAll = (w : Workspace) (r : DeclRef) (include_declaration : Bool) (p : Place) → Contains (places_of w r include_declaration) p ↔ IsPlaceOf (analysis w) r include_declaration p

-- and the list of them that comes by file, then offset, is the only one that does
abbrev pub OneListOfPlaces : Type 0
OneListOfPlaces =
    (w : Workspace) (r : DeclRef) (include_declaration : Bool) (places : List Place) → AllPairs IsBefore places → ((p : Place) → Contains places p ↔ IsPlaceOf (analysis w) r include_declaration p)
    → places ≡ places_of w r include_declaration
