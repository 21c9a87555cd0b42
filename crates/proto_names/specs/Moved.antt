-- The numbers of files, once another file comes between them or one of them leaves.
use Rattle.std.specs.Prelude.{◌≡◌, ℕ, ◌+◌, ◌-◌, List, map, if◌then◌else◌, nat_lt}
use Rattle.proto_names.specs.declared.hashed.HashedDecl.{HashedDecl}
use Rattle.proto_names.specs.declared.hashed.HashedDecls.{HashedDecls}
use Rattle.proto_names.specs.declared.moving.Change.{Change}
use Rattle.proto_names.specs.declared.moving.Change.TheVariants.{Comes, Leaves}
use Rattle.proto_names.specs.declared.decl_ref.DeclRef.{DeclRef}

-- the number of a file, once one comes to the place `at` or leaves it
abbrev pub number_after : Change → ℕ → ℕ → ℕ
number_after Comes at file = if nat_lt file at then file else file + 1
number_after Leaves at file = if nat_lt at file then file - 1 else file

-- a declaration by that number
abbrev pub moved : Change → ℕ → DeclRef → DeclRef
moved change at r = record { file = number_after change at r.file; number = r.number }

-- the same with its hash
abbrev pub with_moved : Change → ℕ → HashedDecl → HashedDecl
with_moved change at k = record { hash = k.hash; decl = moved change at k.decl }

-- each bucket has the declarations that it had, in the same order, by those numbers
pub record AreMoved (change : Change) (at : ℕ) (old new : List HashedDecls) : Type 0 where
  pub hashes_stay : map (λ b. b.hashes.items) new ≡ map (λ b. b.hashes.items) old
  pub decls_are : map (λ b. b.decls.items) new ≡ map (λ b. map (moved change at) b.decls.items) old
