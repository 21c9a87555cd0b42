-- Declarations by name.
use Rattle.std.specs.Prelude.{◌≡◌, ℕ, ◌==◌, List, ◌∷◌, Bool, not, length, map, filter, bytes_eq}
use Rattle.std.specs.List.{list_any}
use Rattle.std.specs.List.Sorted.{IsSorted, IsSortedBy}
use Rattle.std.specs.Cmp.Lexicographic.{slice_cmp}
use Rattle.std.specs.Ordering.{is_lt, nat_cmp, ordering_then}
use Rattle.std.specs.declared.cmp.Ordering.{Ordering}
use Rattle.proto_decls.specs.declared.named_facts.NamedFacts.{NamedFacts}
use Rattle.proto_names.specs.declared.hashed.HashedDecl.{HashedDecl}
use Rattle.proto_names.specs.declared.hashed.HashedDecls.{HashedDecls}
use Rattle.proto_names.specs.declared.decl_ref.DeclRef.{DeclRef}
use Rattle.proto_names.specs.Files.{all_decls, kind_at, name_at}
use Rattle.proto_decls.specs.FullNames.{last_of, scope_of}
use Rattle.proto_names.specs.Hashed.{hashed}
use Rattle.proto_names.specs.Holders.{is_holder}

-- declarations by what stands before their last components
abbrev pub IsByScope : (DeclRef → List ℕ) → List DeclRef → Type 0
IsByScope name decls = IsSortedBy (λ r s. is_lt (slice_cmp nat_cmp (scope_of (name r)) (scope_of (name s)))) decls

-- whether one of the declarations stands in the scope
abbrev pub stands_in : (DeclRef → List ℕ) → List DeclRef → List ℕ → Bool
stands_in name decls scope = list_any (λ r. bytes_eq (scope_of (name r)) scope) decls

-- by file, then by number
abbrev pub by_place : DeclRef → DeclRef → Ordering
by_place r s = ordering_then (nat_cmp r.file s.file) (nat_cmp r.number s.number)

-- by the hashes that stand with them and their full names, then by file and number
abbrev pub by_name : (DeclRef → List ℕ) → HashedDecl → HashedDecl → Ordering
by_name name a b = ordering_then (slice_cmp nat_cmp (a.hash ∷ name a.decl) (b.hash ∷ name b.decl)) (by_place a.decl b.decl)

-- by the hashes that stand with them and their last components, then by their scopes
abbrev pub by_scope : (DeclRef → List ℕ) → HashedDecl → HashedDecl → Ordering
by_scope name a b =
    ordering_then (slice_cmp nat_cmp (a.hash ∷ last_of (name a.decl)) (b.hash ∷ last_of (name b.decl))) (slice_cmp nat_cmp (scope_of (name a.decl)) (scope_of (name b.decl)))

-- whether a declaration stands in another file
abbrev pub is_of_another : ℕ → DeclRef → Bool
is_of_another file r = not (r.file == file)

-- the ones are the others in some order: each test keeps as many of both (this stays true of those that a test keeps, as one needs where
-- a file's entries are left out)
abbrev pub AreRearranged : List HashedDecl → List HashedDecl → Type 0
AreRearranged xs ys = (test : HashedDecl → Bool) → length (filter test xs) ≡ length (filter test ys)

-- the entries, put in the order, as two lists
pub record AreInOrder (order : HashedDecl → HashedDecl → Ordering) (entries : List HashedDecl) (found : HashedDecls) : Type 0 where
  pub sorted : List HashedDecl
  pub same : AreRearranged entries sorted
  pub ordered : IsSorted order sorted
  pub hashes_are : found.hashes.items ≡ map (λ k. k.hash) sorted
  pub decls_are : found.decls.items ≡ map (λ k. k.decl) sorted

-- entries for all declarations of the files by their full names
abbrev pub name_entries : List NamedFacts → List HashedDecl
name_entries files = map (hashed (name_at files)) (all_decls files)

-- those of the files that may settle a scope
abbrev pub all_holders : List NamedFacts → List DeclRef
all_holders files = filter (λ r. is_holder (kind_at files r)) (all_decls files)

-- entries for these by their last components
abbrev pub holder_entries : List NamedFacts → List HashedDecl
holder_entries files = map (hashed (λ r. last_of (name_at files r))) (all_holders files)
