use Rattle.std.proofs.Common.{◌≡◌, ◌≤◌, ◌<◌, ◌+◌, ◌-◌, ℕ, List, length, slice_index_or, true, false}
use Rattle.std.specs.Ordering.{is_lt}
use Rattle.proto_names.specs.declared.hashed.HashedDecl.{HashedDecl}
use Rattle.proto_names.specs.Replaced.{StandIn}
use Rattle.proto_names.proofs.replacing.place_for.Given as goal

-- the entry just before the one place doesn't come behind it, and that at the other place does
abbrev pub invariant-loop-low : goal.invariant-loop-low
invariant-loop-low g l = record {
  ordered : l.low ≤ l.high;
  within : l.high ≤ length l.bucket.hashes.items;
  before : (entries : List HashedDecl) → StandIn entries l.bucket → (n : ℕ) (d : HashedDecl) → n + 1 ≡ l.low → is_lt (g.O.EntryOrder.order l.files l.one (slice_index_or entries n d)) ≡ false;
  behind : (entries : List HashedDecl) → StandIn entries l.bucket → (d : HashedDecl) → l.high < length entries → is_lt (g.O.EntryOrder.order l.files l.one (slice_index_or entries l.high d)) ≡ true;
}

abbrev pub decreases-loop-low : goal.decreases-loop-low
decreases-loop-low g l = l.high - l.low
