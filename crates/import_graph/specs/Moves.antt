-- What two graphs say of one file, where files have other numbers since some came or left.
use Rattle.std.specs.Prelude.{◌≡◌, ℕ, List, Bool, Option, Some, None, map, option_map, slice_index_or}

-- the new number of the file that had the number g; None if the file left
abbrev pub place : List (Option ℕ) → ℕ → Option ℕ
place to g = slice_index_or to g None

-- what an import names by its new number, and whether it closes a cycle
abbrev pub moved_import : List (Option ℕ) → Option ℕ × Bool → Option (Option ℕ) × Bool
moved_import to i = (option_map (place to) i.0, i.1)

abbrev pub new_import : Option ℕ × Bool → Option (Option ℕ) × Bool
new_import i = (option_map Some i.0, i.1)

-- The new outlook is the old one under the new numbers: the same files are seen, the view is closed as before, and the imports, in
-- order, name the same files and close cycles alike. No file that is seen or named has left.
pub record IsMovedOutlook (to : List (Option ℕ)) (old new : List ℕ × (Bool × List (Option ℕ × Bool))) : Type 0 where
  pub views : map Some new.0 ≡ map (place to) old.0
  pub closed : new.1.0 ≡ old.1.0
  pub imports : map new_import new.1.1 ≡ map (moved_import to) old.1.1
