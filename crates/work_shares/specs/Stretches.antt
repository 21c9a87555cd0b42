-- Stretches of a workspace's files.
use Rattle.std.specs.Prelude.{◌≡◌, ℕ, ◌+◌, List, [], ◌∷◌, length, flat_map, ⊤}
use Rattle.std.specs.List.Sorted.{IsPermutation}
use Rattle.proto_decls.specs.declared.named_facts.NamedFacts.{NamedFacts}

-- consecutive files with their facts, and the number, from 0, of the first one among all
pub record PartData : Type 0 where
  pub first : ℕ
  pub files : List NamedFacts

-- the first stretch begins at n, and each other one where the one before it ends
abbrev pub FollowFrom : ℕ → List PartData → Type 0
FollowFrom n [] = ⊤
FollowFrom n (p ∷ rest) = (p.first ≡ n) × FollowFrom (n + length p.files) rest

-- in some order these stretches are the files, without overlap or gap
pub record Cover (files : List NamedFacts) (parts : List PartData) : Type 0 where
  pub ordered : List PartData
  pub same : IsPermutation parts ordered
  pub follow : FollowFrom 0 ordered
  pub whole : flat_map (λ p. p.files) ordered ≡ files
