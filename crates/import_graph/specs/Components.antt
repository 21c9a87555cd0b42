-- Numbers for files, such that no import leads to a higher one.
use Rattle.std.specs.Prelude.{◌≡◌, ◌⊎◌, ℕ, ◌+◌, ◌<◌, ◌≤◌, ◌==◌, List, [], ◌∷◌, ◌++◌, if◌then◌else◌, length, slice_index_or, slice_set, sum_by, Contains}
use Rattle.import_graph.specs.Walks.{Lists}
use Rattle.import_graph.specs.declared.components.Placing.{Placing}

-- what is listed for a file has no higher number
abbrev pub Descends : List (List ℕ) → List ℕ → Type 0
Descends imports numbers = (a b : ℕ) → Lists imports a b → slice_index_or numbers b 0 ≤ slice_index_or numbers a 0

abbrev pub number_of : Placing → ℕ → ℕ
number_of s g = slice_index_or s.numbers.items g 0

-- a file without a number is still to be numbered
abbrev pub cost : ℕ → ℕ → ℕ
cost none number = if number == none then 1 else 0

-- how much work may be left
abbrev pub weight : ℕ → Placing → ℕ
weight none s = sum_by (cost none) s.numbers.items + length s.pending.items

-- the file has the number, and waits, if it had none
pub record Places (none number : ℕ) (old new : Placing) (file : ℕ) : Type 0 where
  pub first : number_of old file ≡ none → (new.numbers.items ≡ slice_set old.numbers.items file number) × (new.pending.items ≡ old.pending.items ++ file ∷ [])
  pub again : (number_of old file ≡ none → ⊥) → (new.numbers.items ≡ old.numbers.items) × (new.pending.items ≡ old.pending.items)

-- the files that had no number have this one, and wait
pub record PlacesAll (none number : ℕ) (old new : Placing) (files : List ℕ) : Type 0 where
  pub as_long : length new.numbers.items ≡ length old.numbers.items
  pub same_or_new : (g : ℕ) → (number_of new g ≡ number_of old g) ⊎ ((number_of old g ≡ none) × (number_of new g ≡ number) × Contains new.pending.items g)
  pub numbered : (g : ℕ) → Contains files g → number_of new g ≡ none → ⊥
  pub waited : (g : ℕ) → Contains old.pending.items g → Contains new.pending.items g
  pub waiting : (g : ℕ) → Contains new.pending.items g → Contains old.pending.items g ⊎ ((g < length old.numbers.items) × (number_of new g ≡ number))
  pub lighter : weight none new ≤ weight none old

-- numbers below the limit are given, and none is lower than one that it leads to, but for the files that wait, which have the last one
pub record Settles (imports : List (List ℕ)) (none limit : ℕ) (s : Placing) : Type 0 where
  pub as_long : length s.numbers.items ≡ length imports
  pub below : (g : ℕ) → g < length imports → (number_of s g < limit) ⊎ (number_of s g ≡ none)
  pub waiting : (g : ℕ) → Contains s.pending.items g → (g < length imports) × (number_of s g + 1 ≡ limit)
  pub settled : (a b : ℕ) → Lists imports a b → (number_of s b ≤ number_of s a) ⊎ Contains s.pending.items a
