-- What changed from one workspace to another, by path.
use Rattle.std.specs.Prelude.{◌≡◌, ◌<◌, ℕ, Bool, List, [], ◌∷◌, Option, Some, None, Contains, bytes_eq, filter_map, length, map, option_map, position, slice_index_or}
use Rattle.std.specs.Cmp.Lexicographic.{slice_cmp}
use Rattle.std.specs.List.Sorted.{IsStrictlySortedBy}
use Rattle.std.specs.Map.{lookup}
use Rattle.std.specs.Ordering.{nat_cmp}
use Rattle.import_graph.specs.Moves.{place}
use Rattle.piece_collector.specs.Views.{BoardView, known_text}
use Rattle.work_index.specs.Workspace.{AnalysisData, NoneImports, Source, Workspace}

-- the text at each path, if a file has it, with the choice how it is read
abbrev pub sources_by_path : Workspace → List ℕ → Option Source
sources_by_path w path = lookup (bytes_eq path) w

-- the same on a board, where all texts are read alike
abbrev pub known_source : Bool → List ℕ → BoardView → Option Source
known_source reads_others path board = option_map (λ text. record { text = text; reads_others = reads_others }) (known_text path board)

-- These paths name all changes: each other path has what it had, if anything. So each file that came, left, got another text or is read otherwise
-- is named.
abbrev pub NameAllChanges : {X : Type 0} → List (List ℕ) → (List ℕ → Option X) → (List ℕ → Option X) → Type 0
NameAllChanges paths before after = (path : List ℕ) → (Contains paths path → ⊥) → after path ≡ before path

-- the files are in the order of their paths, by their bytes, no path twice
abbrev pub IsInOrder : Workspace → Type 0
IsInOrder w = IsStrictlySortedBy (slice_cmp nat_cmp) (map (λ f. f.0) w)

-- the workspace of the texts of a board, given whether those that aren't proto3 are read
pub record IsWorkspaceOf (reads_others : Bool) (board : BoardView) (w : Workspace) : Type 0 where
  pub ordered : IsInOrder w
  pub sources : (path : List ℕ) → sources_by_path w path ≡ known_source reads_others path board

-- ---- which files came or left

-- a file of the analysis has the path, and the file that has the same number now has it too
pub record HasStayed (paths now : List (List ℕ)) (path : List ℕ) : Type 0 where
  pub number : ℕ
  pub before : position (λ q. bytes_eq q path) paths ≡ Some number
  pub within : number < length now
  pub is : slice_index_or now number [] ≡ path

-- the numbers of the files with these paths, if there are such files
abbrev pub numbers_of : List (List ℕ) → List (List ℕ) → List ℕ
numbers_of paths changes = filter_map (λ path. position (λ q. bytes_eq q path) paths) changes

-- the file, given its path and its text, came, nothing else is named, and no file of the analysis imports it
pub record IsArrival (a : AnalysisData) (changes : List (List ℕ)) (board : BoardView) (file : List ℕ × List ℕ) : Type 0 where
  pub alone : changes ≡ file.0 ∷ []
  pub new : position (λ q. bytes_eq q file.0) a.paths ≡ None
  pub there : known_text file.0 board ≡ Some file.1
  pub nobody : NoneImports a.facts file.0

-- the file g, which isn't among the changed ones, had the path that the file n has now
pub record IsUnchangedAt (paths : List (List ℕ)) (changed : List ℕ) (now : List (List ℕ)) (g n : ℕ) : Type 0 where
  pub there : g < length paths
  pub unchanged : Contains changed g → ⊥
  pub here : n < length now
  pub path : slice_index_or paths g [] ≡ slice_index_or now n []

-- each number that is listed at the number of a file is that of a file that has the same path now, and the file isn't among the changed
-- ones
abbrev pub AreNumbersNow : List (List ℕ) → List ℕ → List (List ℕ) → List (Option ℕ) → Type 0
AreNumbersNow paths changed now to = (g n : ℕ) → place to g ≡ Some n → IsUnchangedAt paths changed now g n
