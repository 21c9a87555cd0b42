-- Entries in buckets: those whose hashes leave the same remainder stand together.
use Rattle.std.specs.Prelude.{◌≡◌, ℕ, ◌<◌, ◌%◌, ◌==◌, ◌++◌, List, [], Bool, filter, length, map, slice_index_or}
use Rattle.std.specs.declared.cmp.Ordering.{Ordering}
use Rattle.proto_decls.specs.declared.named_facts.NamedFacts.{NamedFacts}
use Rattle.proto_names.specs.declared.buckets.Buckets.{Buckets}
use Rattle.proto_names.specs.declared.hashed.HashedDecl.{HashedDecl}
use Rattle.proto_names.specs.declared.hashed.HashedDecls.{HashedDecls}
use Rattle.proto_names.specs.Files.{name_at}
use Rattle.proto_names.specs.Tables.{by_name, by_scope, holder_entries, name_entries, AreInOrder}

-- whether the entry belongs to the bucket of this number, of so many
abbrev pub is_in : ℕ → ℕ → HashedDecl → Bool
is_in count number k = (k.hash % count) == number

-- of lists, one for each bucket, the new ones are the old ones with the entries that belong to each behind them
pub record AreDealt (entries : List HashedDecl) (old new : List (List HashedDecl)) : Type 0 where
  pub as_many : length new ≡ length old
  pub each : (n : ℕ) → n < length old → slice_index_or new n [] ≡ slice_index_or old n [] ++ filter (is_in (length old) n) entries

-- each bucket has the entries of its list, in order
pub record AreAllInOrder (order : HashedDecl → HashedDecl → Ordering) (lists : List (List HashedDecl)) (buckets : List HashedDecls) : Type 0 where
  pub as_many : length buckets ≡ length lists
  pub each : (n : ℕ) (d : HashedDecls) → n < length lists → AreInOrder order (slice_index_or lists n []) (slice_index_or buckets n d)

-- there is a bucket at least, and each has those of the entries that belong to it, in order
pub record AreInBuckets (order : HashedDecl → HashedDecl → Ordering) (entries : List HashedDecl) (buckets : List HashedDecls) : Type 0 where
  pub some : 0 < length buckets
  pub each : (n : ℕ) (d : HashedDecls) → n < length buckets → AreInOrder order (filter (is_in (length buckets) n) entries) (slice_index_or buckets n d)

-- all declarations of the files by their full names, and what may settle a scope by the last components
pub record AreByName (files : List NamedFacts) (names holders : Buckets) : Type 0 where
  pub names_are : AreInBuckets (by_name (name_at files)) (name_entries files) names.list.items
  pub holders_are : AreInBuckets (by_scope (name_at files)) (holder_entries files) holders.list.items

-- the buckets have the same entries in the same order
pub record AreCopies (old new : List HashedDecls) : Type 0 where
  pub as_many : length new ≡ length old
  pub hashes_are : map (λ d. d.hashes.items) new ≡ map (λ d. d.hashes.items) old
  pub decls_are : map (λ d. d.decls.items) new ≡ map (λ d. d.decls.items) old
