-- Declarations by hash: in the order of hashes made of their full names, or of a part of these, here a text, and where hashes are equal
-- in the order of the texts.
use Rattle.std.specs.Prelude.{◌≡◌, ℕ, ◌∷◌, List, map}
use Rattle.std.specs.List.Sorted.{IsSorted}
use Rattle.std.specs.Cmp.Lexicographic.{slice_cmp}
use Rattle.proto_decls.specs.FullNames.{hash_of}
use Rattle.std.specs.Ordering.{nat_cmp}
use Rattle.proto_names.specs.declared.hashed.HashedDecl.{HashedDecl}
use Rattle.proto_names.specs.declared.decl_ref.DeclRef.{DeclRef}

-- a text behind its hash
abbrev pub with_hash : List ℕ → List ℕ
with_hash text = hash_of text ∷ text

-- a declaration with the hash of its text
abbrev pub hashed : (DeclRef → List ℕ) → DeclRef → HashedDecl
hashed text r = record { hash = hash_of (text r); decl = r }

-- declarations with the hashes of their texts, in the order of these and then of the texts
pub record AreByHash (text : DeclRef → List ℕ) (hashes : List ℕ) (decls : List DeclRef) : Type 0 where
  pub hashed : hashes ≡ map (λ r. hash_of (text r)) decls
  pub ordered : IsSorted (λ r s. slice_cmp nat_cmp (with_hash (text r)) (with_hash (text s))) decls
