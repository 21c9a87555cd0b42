-- Buckets of entries, before other facts were put in the place of a file's, or a file came.
use Rattle.std.specs.Prelude.{◌≡◌, ℕ, ◌+◌, ◌-◌, ◌<◌, ◌≤◌, List, ◌++◌, All, true, false, length, map, slice_index_or}
use Rattle.std.specs.List.{range_with_len}
use Rattle.std.specs.Ordering.{is_lt}
use Rattle.std.specs.declared.cmp.Ordering.{Ordering}
use Rattle.proto_decls.specs.declared.fact.Decl.{Decl}
use Rattle.proto_names.specs.declared.hashed.HashedDecl.{HashedDecl}
use Rattle.proto_names.specs.declared.hashed.HashedDecls.{HashedDecls}
use Rattle.proto_names.specs.declared.decl_ref.DeclRef.{DeclRef}
use Rattle.proto_names.specs.Buckets.{AreInBuckets}
use Rattle.proto_names.specs.Outlines.{declared}
use Rattle.proto_names.specs.Tables.{AreRearranged}

-- the declarations of a file from one number up to another
abbrev pub refs_between : ℕ → ℕ → ℕ → List DeclRef
refs_between f start end = map (λ n. record { file = f; number = n }) (range_with_len start (end - start))

-- of the declarations of a file before and after a change, so many at the front say the same, and so many at the back, which have the same
-- numbers
pub record AreKept (before after : List Decl) (front back : ℕ) : Type 0 where
  pub within_before : front + back ≤ length before
  pub within_after : front + back ≤ length after
  pub at_front : (n : ℕ) (d : Decl) → n < front → declared (slice_index_or before n d) ≡ declared (slice_index_or after n d)
  pub at_back : (n : ℕ) (d : Decl) → length before ≤ n + back → n < length before → (length before ≡ length after) × (declared (slice_index_or before n d) ≡ declared (slice_index_or after n d))

-- the entries stand in a bucket in this order
pub record StandIn (entries : List HashedDecl) (bucket : HashedDecls) : Type 0 where
  pub hashes_are : bucket.hashes.items ≡ map (λ k. k.hash) entries
  pub decls_are : bucket.decls.items ≡ map (λ k. k.decl) entries

-- at this place one goes between an entry that doesn't come behind it and one that does
pub record GoesBetween (order : HashedDecl → HashedDecl → Ordering) (one : HashedDecl) (entries : List HashedDecl) (place : ℕ) : Type 0 where
  pub before : (n : ℕ) (d : HashedDecl) → n + 1 ≡ place → is_lt (order one (slice_index_or entries n d)) ≡ false
  pub behind : (d : HashedDecl) → place < length entries → is_lt (order one (slice_index_or entries place d)) ≡ true

-- the buckets have what stays and what is gone, in the order of older names; what stays is still called the same, and with what comes it is all entries
pub record WereInBuckets (order : (DeclRef → List ℕ) → HashedDecl → HashedDecl → Ordering) (name : DeclRef → List ℕ) (entries gone come : List HashedDecl) (buckets : List HashedDecls) : Type 0 where
  pub old_name : DeclRef → List ℕ
  pub stay : List HashedDecl
  pub were : AreInBuckets (order old_name) (stay ++ gone) buckets
  pub now : AreRearranged entries (stay ++ come)
  pub alike : All (λ k. old_name k.decl ≡ name k.decl) stay
