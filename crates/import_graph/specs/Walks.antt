-- Walks over files, which are numbers.
use Rattle.std.specs.Prelude.{ℕ, ◌<◌, List, [], slice_index_or, All, Contains}

-- each number is below the limit
abbrev pub AllWithin : ℕ → List ℕ → Type 0
AllWithin limit files = All (λ f. f < limit) files

-- from a to b by steps, of which there may be none
pub data Walk (Step : ℕ → ℕ → Type 0) : ℕ → ℕ → Type 0 where
  stay : {a : ℕ} → Walk Step a a
  go : {a b c : ℕ} → Step a b → Walk Step b c → Walk Step a c

-- file b is listed for file a
abbrev pub Lists : List (List ℕ) → ℕ → ℕ → Type 0
Lists next a b = Contains (slice_index_or next a []) b

-- some file of the start leads to g
abbrev pub ReachedFrom : List (List ℕ) → List ℕ → ℕ → Type 0
ReachedFrom next start g = (h : ℕ) × Contains start h × Walk (Lists next) h g
