-- What a step of a search does.
use Rattle.std.specs.Prelude.{◌≡◌, ◌⊎◌, ◌↔◌, ℕ, ◌+◌, ◌<◌, ◌≤◌, List, [], ◌∷◌, ◌++◌, Bool, true, false, length, slice_index_or, slice_set, sum_by, filter, Contains}
use Rattle.std.specs.List.{range_with_len}
use Rattle.import_graph.specs.Walks.{Lists}
use Rattle.import_graph.specs.declared.file_search.FileSearch.{FileSearch}

-- the file was seen
abbrev pub IsSeen : FileSearch → ℕ → Type 0
IsSeen s g = slice_index_or s.seen.items g false ≡ true

-- the files that were seen are those that were found
abbrev pub IsListed : FileSearch → Type 0
IsListed s = (g : ℕ) → IsSeen s g ↔ Contains s.found.items g

-- the file imports one that was seen
abbrev pub ImportsSeen : List (List ℕ) → FileSearch → ℕ → Type 0
ImportsSeen imports s g = (h : ℕ) × Lists imports g h × IsSeen s h

-- the files that are flagged, ascending
abbrev pub flagged : List Bool → List ℕ
flagged flags = filter (λ g. slice_index_or flags g false) (range_with_len 0 (length flags))

-- a file that was not seen may still be found
abbrev pub cost : Bool → ℕ
cost true = 0
cost false = 1

-- how many files were found or may be
abbrev pub weight : FileSearch → ℕ
weight s = sum_by cost s.seen.items + length s.found.items

-- the file is seen, and found if it was not seen
pub record Visits (old new : FileSearch) (file : ℕ) : Type 0 where
  pub again : IsSeen old file → (new.seen.items ≡ old.seen.items) × (new.found.items ≡ old.found.items)
  pub first : slice_index_or old.seen.items file false ≡ false → (new.seen.items ≡ slice_set old.seen.items file true) × (new.found.items ≡ old.found.items ++ file ∷ [])

-- the files are seen, and those that were not seen are found after all others
pub record VisitsAll (old new : FileSearch) (files : List ℕ) : Type 0 where
  pub as_long : length new.seen.items ≡ length old.seen.items
  pub keeps : (g : ℕ) → IsSeen old g → IsSeen new g
  pub marks : (g : ℕ) → Contains files g → IsSeen new g
  pub others : (g : ℕ) → IsSeen new g → IsSeen old g ⊎ Contains files g
  pub listed : IsListed old → IsListed new
  pub longer : length old.found.items ≤ length new.found.items
  pub in_place : (k : ℕ) → k < length old.found.items → slice_index_or new.found.items k 0 ≡ slice_index_or old.found.items k 0
  pub even : weight new ≡ weight old
