-- A tour of all files.
use Rattle.std.specs.Prelude.{◌≡◌, ◌⊎◌, ◌↔◌, Contains, ℕ, ◌+◌, ◌<◌, List, [], ◌∷◌, Bool, true, false, length, vec_len, All}
use Rattle.import_graph.specs.Walks.{AllWithin, Lists}
use Rattle.import_graph.specs.declared.tour.Step.{Step}
use Rattle.import_graph.specs.declared.tour.Step.TheVariants.{Enter, Leave}
use Rattle.import_graph.specs.declared.tour.Tour.{Tour}

-- the file of the step is below the limit
abbrev pub IsWithin : ℕ → Step → Type 0
IsWithin limit (Enter file) = file < limit
IsWithin limit (Leave file) = file < limit

-- the files to come and those that were left are there
pub record IsTour (tour : Tour) : Type 0 where
  pub steps : All (IsWithin (vec_len tour.entered)) tour.steps.items
  pub left : AllWithin (vec_len tour.entered) tour.left.items

-- how many steps the files bring that were not entered yet: to leave the file, and to enter each that follows it
abbrev pub to_come : List Bool → List (List ℕ) → ℕ
to_come [] next = 0
to_come (entered ∷ rest) [] = 0
to_come (true ∷ rest) (row ∷ next) = to_come rest next
to_come (false ∷ rest) (row ∷ next) = length row + 1 + to_come rest next

-- how many steps are left
abbrev pub work : List (List ℕ) → Tour → ℕ
work next tour = to_come tour.entered.items next + vec_len tour.steps

-- what is listed is what was listed before, and the file in the targets' rows
abbrev pub Adds : List (List ℕ) → List (List ℕ) → List ℕ → ℕ → Type 0
Adds old new targets file = (a b : ℕ) → Lists new a b ↔ Lists old a b ⊎ (Contains targets a × (b ≡ file))

-- turned rows list a file for another one exactly if the rows list that one for it
abbrev pub IsTurned : List (List ℕ) → List (List ℕ) → Type 0
IsTurned rows turned = (a b : ℕ) → Lists turned a b ↔ Lists rows b a
