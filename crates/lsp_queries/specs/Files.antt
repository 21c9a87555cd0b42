-- What an analysis knows of a file, if there is such a file.
use Rattle.std.specs.Prelude.{ℕ, List, [], Option, Some, None, option_and_then, option_map}
use Rattle.std.specs.List.{slice_get}
use Rattle.std.specs.Option.{option_map_or}
use Rattle.proto_tree.specs.declared.node.Span.{Span}
use Rattle.proto_decls.specs.declared.fact.Decl.{Decl}
use Rattle.proto_decls.specs.declared.fact.FileFacts.{FileFacts}
use Rattle.proto_decls.specs.declared.fact.PackageFact.{PackageFact}
use Rattle.proto_resolve.specs.declared.resolve.Links.{Links}
use Rattle.proto_names.specs.declared.decl_ref.DeclRef.{DeclRef}
use Rattle.proto_resolve.specs.declared.uses.NameUse.{NameUse}
use Rattle.work_index.specs.Workspace.{AnalysisData}
use Rattle.lsp_queries.specs.declared.place.Place.{Place}

abbrev pub place : ℕ → Span → Place
place file span = record { file = file; start = span.start; «end» = span.end }

abbrev pub components_of : Option PackageFact → List Span
components_of None = []
components_of (Some p) = p.components

module _ (a : AnalysisData) where
  -- what a file says by itself, and what its names mean
  abbrev pub facts_in : ℕ → Option FileFacts
  facts_in file = slice_get a.facts file

  abbrev pub links_in : ℕ → Option Links
  links_in file = slice_get a.links file

  -- its declarations, its package and the components of that, and the uses of names in it, each by offset
  abbrev pub decls_in : ℕ → List Decl
  decls_in file = option_map_or (λ facts. facts.decls) (facts_in file) []

  abbrev pub package_in : ℕ → Option PackageFact
  package_in file = option_and_then (λ facts. facts.«package») (facts_in file)

  abbrev pub components_in : ℕ → List Span
  components_in file = option_map_or (λ facts. components_of facts.«package») (facts_in file) []

  abbrev pub uses_in : ℕ → List NameUse
  uses_in file = option_map_or (λ links. links.uses) (links_in file) []

  -- a declaration, if it is there, and where its name stands
  abbrev pub decl_of : DeclRef → Option Decl
  decl_of r = slice_get (decls_in r.file) r.number

  abbrev pub place_of : DeclRef → Option Place
  place_of r = option_map (λ d. place r.file d.name_span) (decl_of r)
