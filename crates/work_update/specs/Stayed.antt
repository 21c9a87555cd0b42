-- Files that stay as they are in a workspace where others come, leave or get other texts.
use Rattle.std.specs.Prelude.{◌≡◌, ◌<◌, ◌≤◌, ℕ, List, Option, Some, None, length, slice_index_or, MatchOption}
use Rattle.proto_decls.specs.declared.named_facts.NamedFacts.{NamedFacts}
use Rattle.import_graph.specs.declared.imports.FileImports.{FileImports}
use Rattle.import_graph.specs.Imports.{graph_of}
use Rattle.import_graph.specs.Moves.{IsMovedOutlook, place}
use Rattle.import_graph.specs.Outlooks.{outlook}
use Rattle.work_index.specs.Workspace.{Workspace, all_facts, no_file, resolution_of}
use Rattle.work_update.specs.declared.update_files.Earlier.{Earlier}
use Rattle.work_changes.specs.Changes.{no_links}

-- the file g of a workspace and the file n of another have the same path and the same text, which is read alike
pub record IsSameFile (old new : Workspace) (g n : ℕ) : Type 0 where
  pub there : g < length old
  pub here : n < length new
  pub same : slice_index_or old g no_file ≡ slice_index_or new n no_file

-- each file that has a number among the new ones stayed as it was
abbrev pub Stay : Workspace → Workspace → List (Option ℕ) → Type 0
Stay old new to = (g n : ℕ) → place to g ≡ Some n → IsSameFile old new g n

-- of each of so many files, the number that it had, where one is listed at its new number
pub record AreNumbersBefore (files : ℕ) (to before : List (Option ℕ)) : Type 0 where
  pub count : length before ≡ files
  pub each : (n g : ℕ) → slice_index_or before n None ≡ Some g → place to g ≡ Some n

-- the file g of the old graph of imports is the file n of the new one, and the imports say the same of it under the new numbers
pub record HasMoved (old new : List FileImports) (to : List (Option ℕ)) (g n : ℕ) : Type 0 where
  pub within : g < length old
  pub moves : place to g ≡ Some n
  pub imports : IsMovedOutlook to (outlook old g) (outlook new n)

-- a graph that is kept is that of the old files; where none is, the imports say the same of each file that has a number among the new ones
abbrev pub WasGraph : Option (List FileImports) → List NamedFacts → List NamedFacts → List (Option ℕ) → Type 0
WasGraph graph old new to = MatchOption graph ((g n : ℕ) → place to g ≡ Some n → HasMoved (graph_of old) (graph_of new) to g n) (λ before. before ≡ graph_of old)

-- These were known of a workspace of which the files that have a number stayed as they were. The links of those with a number from
-- k on were not taken yet.
pub record IsEarlier (k : ℕ) (to : List (Option ℕ)) (w : Workspace) (earlier : Earlier) : Type 0 where
  pub old : Workspace
  pub stayed : Stay old w to
  pub graph : WasGraph earlier.graph (all_facts old) (all_facts w) to
  pub count : length earlier.links.items ≡ length old
  pub links : (g n : ℕ) → place to g ≡ Some n → k ≤ n → slice_index_or earlier.links.items g no_links ≡ resolution_of old (g, slice_index_or old g no_file)

-- the same beside the table of the files now
pub record IsEarlierThan (k : ℕ) (to : List (Option ℕ)) (w : Workspace) (table : List NamedFacts) (earlier : Earlier) : Type 0 where
  pub all : table ≡ all_facts w
  pub known : IsEarlier k to w earlier
