-- Fewer steps that lead to the same files.
use Rattle.std.specs.Prelude.{◌≡◌, ◌⊎◌, ◌↔◌, ℕ, ◌<◌, List, [], Bool, true, false, slice_index_or, Contains}
use Rattle.import_graph.specs.Walks.{Lists, Walk}

-- steps lead from a to b
abbrev pub Leads : List (List ℕ) → ℕ → ℕ → Type 0
Leads next a b = Walk (λ x y. Lists next x y) a b

-- steps lead from a to one of these files
abbrev pub LeadsToOne : List (List ℕ) → List ℕ → ℕ → Type 0
LeadsToOne next files a = (b : ℕ) × Contains files b × Leads next a b

-- steps of both kinds lead from each file to the same ones
abbrev pub LeadAlike : List (List ℕ) → List (List ℕ) → Type 0
LeadAlike some others = (a b : ℕ) → Leads some a b ↔ Leads others a b

-- the file itself, or one with its number, both being tied
abbrev pub StandsFor : List ℕ → List Bool → ℕ → ℕ → Type 0
StandsFor numbers flags g f = (g ≡ f) ⊎ ((slice_index_or flags g false ≡ true) × (slice_index_or flags f false ≡ true) × (slice_index_or numbers g 0 ≡ slice_index_or numbers f 0))

-- the file that stands for a file
abbrev pub representative : List ℕ → ℕ → ℕ
representative representatives f = slice_index_or representatives f f

-- the step from a file to another
abbrev pub IsOne : ℕ → ℕ → ℕ → ℕ → Type 0
IsOne from to a b = (a ≡ from) × (b ≡ to)

-- a step from a file to one that stands for a target
abbrev pub IsToTarget : List ℕ → ℕ → List ℕ → ℕ → ℕ → Type 0
IsToTarget representatives from targets a b = (t : ℕ) × Contains targets t × (a ≡ from) × (b ≡ representative representatives t)

-- the steps of a file: to the one that stands for it, back from there, and from there to those that stand for its targets
pub data IsStepOf (representatives : List ℕ) (file : ℕ) (targets : List ℕ) : ℕ → ℕ → Type 0 where
  ahead : IsStepOf representatives file targets file (representative representatives file)
  back : IsStepOf representatives file targets (representative representatives file) file
  onward : {t : ℕ} → Contains targets t → IsStepOf representatives file targets (representative representatives file) (representative representatives t)

-- old steps stay, and steps lead where these would; all others are these
pub record Adds (Step : ℕ → ℕ → Type 0) (old new : List (List ℕ)) : Type 0 where
  pub kept : (a b : ℕ) → Lists old a b → Lists new a b
  pub joined : (a b : ℕ) → Step a b → Leads new a b
  pub only : (a b : ℕ) → Lists new a b → Lists old a b ⊎ Step a b

-- steps lead where those of so many files would, and all are steps of a file
pub record Condenses (next : List (List ℕ)) (representatives : List ℕ) (rows : List (List ℕ)) (count : ℕ) : Type 0 where
  pub joined : (f a b : ℕ) → f < count → IsStepOf representatives f (slice_index_or next f []) a b → Leads rows a b
  pub only : (a b : ℕ) → Lists rows a b → (f : ℕ) × IsStepOf representatives f (slice_index_or next f []) a b
