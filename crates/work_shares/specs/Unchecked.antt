-- The files that aren't checked for unknown names, and the imports that are the reason.
use Rattle.std.specs.Prelude.{◌↔◌, ℕ, ◌<◌, List, [], ◌∷◌, Option, IsSome, if◌then◌else◌, slice_get, length, Contains}
use Rattle.std.specs.List.{enumerate_from, flat_map}
use Rattle.proto_decls.specs.declared.fact.ImportFact.{ImportFact}
use Rattle.proto_decls.specs.declared.named_facts.NamedFacts.{NamedFacts}
use Rattle.import_graph.specs.Imports.{graph_of, target_at, is_analysed}
use Rattle.import_graph.specs.Closures.{view_of, open_views}
use Rattle.proto_names.specs.Files.{imports_at}

-- the files that aren't checked for unknown names (401, 402), by number: those whose view isn't closed
abbrev pub unchecked : List NamedFacts → List ℕ
unchecked files = open_views (graph_of files)

-- the path in an import of f, given its number, if it names no analysed file
abbrev pub lost_path : List NamedFacts → ℕ → ℕ × ImportFact → List (List ℕ)
lost_path files f e = if is_analysed (graph_of files) (target_at (graph_of files) f e.0) then [] else e.1.path ∷ []

-- the same of all imports of f
abbrev pub lost_paths : List NamedFacts → ℕ → List (List ℕ)
lost_paths files f = flat_map (lost_path files f) (enumerate_from 0 (imports_at files f))

-- the first of those of the files that f sees, by their paths
abbrev pub first_lost : List NamedFacts → ℕ → Option (List ℕ)
first_lost files f = slice_get (flat_map (lost_paths files) (view_of (graph_of files) f)) 0

-- a file isn't checked exactly if there is such an import
abbrev pub UncheckedLaw : Type 0
UncheckedLaw = (files : List NamedFacts) (f : ℕ) → f < length files → IsSome (first_lost files f) ↔ Contains (unchecked files) f
