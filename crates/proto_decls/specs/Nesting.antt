-- Declarations whose full names nest.
use Rattle.std.specs.Prelude.{◌≡◌, ◌≢◌, ◌⊎◌, ℕ, List, [], ◌∷◌, ◌++◌, Option, Some, None, All}
use Rattle.std.specs.List.{Any}
use Rattle.proto_decls.specs.declared.fact.FileFacts.{FileFacts}
use Rattle.proto_decls.specs.declared.fact.PackageFact.{PackageFact}
use Rattle.proto_decls.specs.Text.{joined}

-- the package is this one, or lies in it
abbrev pub IsWithin : List ℕ → Option PackageFact → Type 0
IsWithin name None = ⊥
IsWithin name (Some p) = (p.full_name ≡ name) ⊎ ((rest : List ℕ) × (p.full_name ≡ name ++ 46 ∷ rest))

-- the facts have the full name: a declaration has it, or the package has it or lies in it
abbrev pub HasName : FileFacts → List ℕ → Type 0
HasName facts name = Any (λ d. d.full_name ≡ name) facts.decls ⊎ IsWithin name facts.«package»

-- the facts have each full name that this one lies in
abbrev pub HasOuterNames : FileFacts → List ℕ → Type 0
HasOuterNames facts full_name = (outer name : List ℕ) → outer ≢ [] → full_name ≡ joined outer name → HasName facts outer

-- names nest: the facts have each full name that a declaration lies in
abbrev pub NamesNest : FileFacts → Type 0
NamesNest facts = All (λ d. HasOuterNames facts d.full_name) facts.decls
