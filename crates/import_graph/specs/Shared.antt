-- Lists of files that several files share.
use Rattle.std.specs.Prelude.{◌≡◌, ◌↔◌, ◌⊎◌, ℕ, ◌<◌, List, [], Option, Some, None, length, map, slice_index_or, All, Contains}
use Rattle.std.specs.List.Sorted.{IsStrictlyIncreasing}
use Rattle.import_graph.specs.Walks.{AllWithin, ReachedFrom}
use Rattle.import_graph.specs.Condensed.{representative}
use Rattle.import_graph.specs.declared.shared.Start.{Start}
use Rattle.import_graph.specs.declared.shared.SharedLists.{SharedLists}

-- the start has the files that stand for what the file imports
pub record IsStart (representatives : List ℕ) (imports : List (List ℕ)) (s : Start) : Type 0 where
  pub there : s.file < length imports
  pub exact : (h : ℕ) → Contains s.first h ↔ Contains (map (representative representatives) (slice_index_or imports s.file [])) h

-- the start and the imports of its file, which is there, lead to the same
pub record LeadsAlike (steps imports : List (List ℕ)) (s : Start) : Type 0 where
  pub there : s.file < length imports
  pub within : AllWithin (length steps) s.first
  pub alike : (g : ℕ) → ReachedFrom steps s.first g ↔ ReachedFrom steps (slice_index_or imports s.file []) g

-- the list has what the imports of the file lead to, ascending, and the file is among that
pub record IsOwnList (steps imports : List (List ℕ)) (f : ℕ) (list : List ℕ) : Type 0 where
  pub ascending : IsStrictlyIncreasing list
  pub exact : (g : ℕ) → Contains list g ↔ ReachedFrom steps (slice_index_or imports f []) g
  pub own : Contains list f

-- the list of a file, by its number
abbrev pub list_at : SharedLists → ℕ → List ℕ
list_at s k = slice_index_or s.lists.items k []

-- the number of a file's list, if it has one
abbrev pub number_at : SharedLists → ℕ → Option ℕ
number_at s f = slice_index_or s.numbers.items f None

-- each list is that of the files that share it, and has files that are there
pub record AreShared (steps imports : List (List ℕ)) (s : SharedLists) : Type 0 where
  pub as_many : length s.numbers.items ≡ length imports
  pub below : (f k : ℕ) → number_at s f ≡ Some k → k < length s.lists.items
  pub own : (f k : ℕ) → number_at s f ≡ Some k → IsOwnList steps imports f (list_at s k)
  pub listed : All (AllWithin (length steps)) s.lists.items

-- the lists stay, and the files of which it has some get the list of this number
pub record Fills (number : ℕ) (old new : SharedLists) (files : List ℕ) : Type 0 where
  pub lists : new.lists.items ≡ old.lists.items
  pub as_many : length new.numbers.items ≡ length old.numbers.items
  pub only : (f k : ℕ) → number_at new f ≡ Some k → (number_at old f ≡ Some k) ⊎ ((k ≡ number) × Contains files f × Contains (list_at old number) f)
