-- What is known of files by numbers, once another file comes between them that none of them imports.
use Rattle.std.specs.Prelude.{◌≡◌, ◌⊎◌, ℕ, ◌+◌, ◌≤◌, List, None, false, if◌then◌else◌, nat_lt, map, option_map, slice_index_or, Contains}
use Rattle.std.specs.List.{insert}
use Rattle.import_graph.specs.declared.components.Components.{Components}
use Rattle.import_graph.specs.declared.imports.FileImports.{FileImports}
use Rattle.import_graph.specs.declared.imports.ImportEdge.{ImportEdge}
use Rattle.import_graph.specs.declared.shared.SharedLists.{SharedLists}

-- the number of a file, once another comes to the place `at`
abbrev pub number_after : ℕ → ℕ → ℕ
number_after at file = if nat_lt file at then file else file + 1

-- what an import names by that number
abbrev pub edge_after : ℕ → ImportEdge → ImportEdge
edge_after at l = record { target = option_map (number_after at) l.target; is_public = l.is_public }

-- what a file imports by those numbers
abbrev pub file_after : ℕ → FileImports → FileImports
file_after at file = record { edges = map (edge_after at) file.edges; is_opaque = file.is_opaque }

-- rows of files, among which another file comes to the place `at` with a row of its own
abbrev pub rows_with : ℕ → List ℕ → List (List ℕ) → List (List ℕ)
rows_with at own rows = insert (map (map (number_after at)) rows) at own

-- the file that came to the place `at` and imports these has a number that is no lower than those of the others among them, and is tied to none
pub record HasNumber (at : ℕ) (own : List ℕ) (old new : Components) : Type 0 where
  pub number : ℕ
  pub numbers : new.numbers.items ≡ insert old.numbers.items at number
  pub highest : (t : ℕ) → Contains own t → (t ≡ at) ⊎ (slice_index_or new.numbers.items t 0 ≤ number)
  pub tied : new.tied.items ≡ insert old.tied.items at false

-- the file that came to the place `at` shares no list; the others share the lists that they shared, in which files have their new numbers
pub record HasNoList (at : ℕ) (old new : SharedLists) : Type 0 where
  pub numbers : new.numbers.items ≡ insert old.numbers.items at None
  pub lists : new.lists.items ≡ map (map (number_after at)) old.lists.items
