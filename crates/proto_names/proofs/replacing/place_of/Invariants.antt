use Rattle.std.proofs.Common.{◌≢◌, ◌<◌, ◌≤◌, ℕ, List, length, slice_index_or}
use Rattle.proto_names.specs.declared.hashed.HashedDecl.{HashedDecl}
use Rattle.proto_names.specs.Replaced.{StandIn}
use Rattle.proto_names.proofs.replacing.place_of.Given as goal

abbrev pub decreases-loop-place : goal.decreases-loop-place
decreases-loop-place l = l.place

-- it isn't among those so far
abbrev pub invariant-loop-place : goal.invariant-loop-place
invariant-loop-place l = record {
  within : l.place ≤ length l.bucket.hashes.items;
  behind : (entries : List HashedDecl) → StandIn entries l.bucket → (n : ℕ) (d : HashedDecl) → l.place ≤ n → n < length entries → slice_index_or entries n d ≢ l.one;
}
