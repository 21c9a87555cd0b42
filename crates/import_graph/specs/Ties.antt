-- Files that lead to one another.
use Rattle.std.specs.Prelude.{◌≡◌, ℕ, List, Bool, true, false, slice_index_or}
use Rattle.import_graph.specs.Walks.{Lists, Walk}

-- each row lists files of the old one with the number of the row's own file
abbrev pub IsInner : List (List ℕ) → List ℕ → List (List ℕ) → Type 0
IsInner imports numbers rows = (a b : ℕ) → Lists rows a b → Lists imports a b × (slice_index_or numbers b 0 ≡ slice_index_or numbers a 0)

-- the file stands at its number among the first files
abbrev pub IsFirst : List ℕ → List ℕ → ℕ → Type 0
IsFirst firsts numbers file = slice_index_or firsts (slice_index_or numbers file 0) 0 ≡ file

-- flagged files of one number lead to one another
abbrev pub IsTied : List (List ℕ) → List ℕ → List Bool → Type 0
IsTied imports numbers flags = (a b : ℕ) → slice_index_or flags a false ≡ true → slice_index_or flags b false ≡ true
    → slice_index_or numbers a 0 ≡ slice_index_or numbers b 0 → Walk (λ x y. Lists imports x y) a b
