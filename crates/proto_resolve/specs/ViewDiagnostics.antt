-- What is wrong in a file by what it sees. The numbers are those of the diagnostics.
use Rattle.std.specs.Prelude.{ℕ, ◌==◌, ◌&&◌, not, List, [], ◌∷◌, ◌++◌, Bool, Option, Some, None, if◌then◌else◌}
use Rattle.std.specs.List.{list_any, flat_map, enumerate_from}
use Rattle.proto_decls.specs.declared.diagnostic.Diag.{Diag}
use Rattle.proto_decls.specs.declared.fact.Decl.{Decl}
use Rattle.proto_decls.specs.declared.fact.ImportFact.{ImportFact}
use Rattle.proto_decls.specs.declared.problem.Problem.TheVariants as m
use Rattle.proto_decls.specs.Diags.{diag}
use Rattle.proto_decls.specs.declared.named_facts.NamedFacts.{NamedFacts}
use Rattle.import_graph.specs.Imports.{graph_of, target_at}
use Rattle.import_graph.specs.Closures.{view_of, is_closed, closes_cycle}
use Rattle.proto_resolve.specs.declared.site.NameSite.{NameSite}
use Rattle.proto_resolve.specs.declared.target.Target.{Target}
use Rattle.proto_names.specs.Files.{decls_at, all_named, has_package, is_seen, imports_at}
use Rattle.proto_resolve.specs.Names.{meaning, has_kind, is_type}

module _ (files : List NamedFacts) (f : ℕ) (view : List ℕ) where
  abbrev pub diagnostics_of_meaning : NameSite → Option Target → List Diag
  diagnostics_of_meaning n None = diag m.Unresolved n.span ∷ []
  diagnostics_of_meaning n (Some t) = if has_kind files (is_type n.needs) (Some t) then [] else diag m.WrongKind n.span ∷ []

  -- 401: a name without a meaning; 402: a name whose meaning is of the wrong kind
  abbrev pub name_diagnostics : NameSite → List Diag
  name_diagnostics n = diagnostics_of_meaning n (meaning files f view n)

  -- another file of the view declares the full name
  abbrev pub is_declared_elsewhere : List ℕ → Bool
  is_declared_elsewhere name = list_any (λ r. not (r.file == f) && is_seen view r.file) (all_named files name)

  -- 405: a full name that another file of the view declares; 406: a full name that is a package of a file of the view
  abbrev pub decl_diagnostics : Decl → List Diag
  decl_diagnostics d =
      (if is_declared_elsewhere d.full_name then diag m.DeclaredElsewhere d.name_span ∷ [] else [])
      ++ (if list_any (has_package files d.full_name) view then diag m.NameIsPackage d.name_span ∷ [] else [])

module _ (files : List NamedFacts) (f : ℕ) where
  abbrev pub diagnostics_of_target : ImportFact → Option ℕ → List Diag
  diagnostics_of_target i None = diag m.ImportNotFound i.span ∷ []
  diagnostics_of_target i (Some g) = if closes_cycle (graph_of files) f (Some g) then diag m.ImportCycle i.span ∷ [] else []

  -- 403: an import that names no file; 404: an import that closes a cycle
  abbrev pub import_diagnostics : ℕ × ImportFact → List Diag
  import_diagnostics e = diagnostics_of_target e.1 (target_at (graph_of files) f e.0)

-- The diagnostics of a file with these names; those of its names only where its view is closed.
abbrev pub view_diagnostics : List NamedFacts → ℕ → List NameSite → List Diag
view_diagnostics files f sites =
    (if is_closed (graph_of files) f then flat_map (name_diagnostics files f (view_of (graph_of files) f)) sites else [])
    ++ (flat_map (import_diagnostics files f) (enumerate_from 0 (imports_at files f))
    ++ flat_map (decl_diagnostics files f (view_of (graph_of files) f)) (decls_at files f))
