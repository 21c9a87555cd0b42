-- Intervals by their lower bounds.
use Rattle.std.specs.Prelude.{◌≡◌, ℕ, ◌+◌, ◌<◌, ◌≤◌, max, ⊤, Bool, false, ◌&&◌, ◌||◌, List, [], ◌∷◌, ◌++◌, Option, Some, None, length, take, slice_index, nat_le, nat_lt}
use Rattle.std.specs.List.{list_any, IsDistinct}
use Rattle.proto_decls.specs.declared.part.Interval.{Interval}
use Rattle.proto_facts.specs.declared.reach.Reach.{Reach}
use Rattle.proto_decls.specs.Checks.{overlap}

abbrev pub reach_of : Interval → Reach
reach_of r = record { low = r.low; high = r.high }

-- begins at or below the first and ends at or above the second
abbrev pub between : ℕ → ℕ → Reach → Bool
between high low r = nat_le r.low high && nat_le low r.high

abbrev pub holds : ℕ → Reach → Bool
holds v = between v v

-- a number below the end at a place is not above one of the intervals up to there
pub record AreEnds (sorted : List Reach) (ends : List ℕ) : Type 0 where
  pub as_long : length ends ≡ length sorted
  pub reach : (k v : ℕ) → k < length sorted → nat_lt v (slice_index ends k) ≡ list_any (λ r. nat_le v r.high) (take (k + 1) sorted)

-- whether a number lies in one of them, if it is one
abbrev pub is_held : Option ℕ → List Reach → Bool
is_held None sorted = false
is_held (Some v) sorted = list_any (holds v) sorted

-- for each interval, whether it shares a number with one of those before it
abbrev pub met_after : List Interval → List Interval → List Bool
met_after before [] = []
met_after before (r ∷ more) = list_any (overlap r) before ∷ met_after (before ++ r ∷ []) more

-- the same of what was found of each, where further intervals stand before all of them
abbrev pub met_also : List Interval → List Interval → List Bool → List Bool
met_also before [] found = []
met_also before (r ∷ more) [] = []
met_also before (r ∷ more) (f ∷ found) = (list_any (overlap r) before || f) ∷ met_also before more found

-- each begins at this end or above it, and behind those before it
abbrev pub Rise : ℕ → List Reach → Type 0
Rise end [] = ⊤
Rise end (r ∷ more) = (end ≤ r.low) × Rise (max end (r.high + 1)) more

-- no two share a number
abbrev pub AreApart : List Interval → Type 0
AreApart good = IsDistinct overlap good
