-- The answers about the names of a workspace.
use Rattle.std.specs.Prelude.{ℕ, ◌==◌, ◌&&◌, not, nat_lt, List, ◌∷◌, ◌++◌, Bool, false, Option, Some, None, option_map, option_and_then, map, filter, if◌then◌else◌}
use Rattle.std.specs.List.{enumerate_from, flat_map}
use Rattle.std.specs.Option.{option_map_or}
use Rattle.proto_names.specs.declared.decl_ref.DeclRef.{DeclRef}
use Rattle.proto_resolve.specs.declared.target.Target.{Target}
use Rattle.proto_resolve.specs.declared.target.Target.TheVariants.{Declared, Package}
use Rattle.work_index.specs.Workspace.{AnalysisData}
use Rattle.lsp_queries.specs.Files.{place, uses_in, decl_of, place_of}
use Rattle.lsp_queries.specs.Matching.{contains}
use Rattle.lsp_queries.specs.Offsets.{declaration_at}
use Rattle.lsp_queries.specs.declared.place.Place.{Place}

-- ---- symbols

abbrev pub is_match : AnalysisData → List ℕ → DeclRef → Bool
is_match a query r = option_map_or (λ d. contains query d.full_name) (decl_of a r) false

-- the declarations whose full name contains the query, by path, then offset
abbrev pub symbols : AnalysisData → List ℕ → List DeclRef
symbols a query = filter (is_match a query) a.decls

-- ---- the definition of a name

-- where the name of the declaration stands that the name at an offset stands for; nowhere if it is a package, or there is none
abbrev pub definition : AnalysisData → ℕ → ℕ → Option Place
definition a file offset = option_and_then (place_of a) (declaration_at a file offset)

-- ---- references

abbrev pub is_of : DeclRef → Target → Bool
is_of r (Declared s) = (s.file == r.file) && (s.number == r.number)
is_of r (Package name) = false

-- where a file uses a declaration, by offset
abbrev pub uses_of : AnalysisData → DeclRef → ℕ → List Place
uses_of a r file = map (λ u. place file u.span) (filter (λ u. is_of r u.target) (uses_in a file))

-- the declaration's own place among those of its file, by offset
abbrev pub with_own : Place → List Place → List Place
with_own own places = filter (λ p. nat_lt p.start own.start) places ++ own ∷ filter (λ p. not (nat_lt p.start own.start)) places

abbrev pub with_own_in : Option Place → ℕ → List Place → List Place
with_own_in None file places = places
with_own_in (Some own) file places = if own.file == file then with_own own places else places

-- where a file has a declaration: its uses, and its own place if that is given
abbrev pub sites_in : AnalysisData → DeclRef → Option Place → ℕ → List Place
sites_in a r own file = with_own_in own file (uses_of a r file)

-- all of them, by path, then offset
abbrev pub sites_of : AnalysisData → DeclRef → Option Place → List Place
sites_of a r own = flat_map (λ e. sites_in a r own e.0) (enumerate_from 0 a.paths)

-- the declaration's own place, if it is asked for
abbrev pub own_place : AnalysisData → DeclRef → Bool → Option Place
own_place a r include_declaration = if include_declaration then place_of a r else None

-- where the declaration is used that the name at an offset stands for; nothing if it is a package, or there is none
abbrev pub references : AnalysisData → ℕ → ℕ → Bool → Option (List Place)
references a file offset include_declaration = option_map (λ r. sites_of a r (own_place a r include_declaration)) (declaration_at a file offset)
