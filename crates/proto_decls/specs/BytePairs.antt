-- Which pairs of neighbouring bytes stand in texts, without regard to the case of ASCII letters.
use Rattle.std.specs.Prelude.{◌≡◌, ℕ, ◌+◌, ◌*◌, ◌%◌, ◌<◌, List, Bool, true, false, length, slice_index, slice_index_or}
use Rattle.std.specs.Char.{to_ascii_lowercase}

-- the kind of a pair, one of 1,024
abbrev pub kind_of : ℕ → ℕ → ℕ
kind_of first second = (to_ascii_lowercase first * 32 + to_ascii_lowercase second) % 1024

-- each pair of a text is of a kind that was seen
abbrev pub HasPairs : List Bool → List ℕ → Type 0
HasPairs seen text = (i : ℕ) → i + 1 < length text → slice_index_or seen (kind_of (slice_index text i) (slice_index text (i + 1))) false ≡ true

-- two bytes, in either case, stand beside each other in a text
pub record AreNeighbours (text : List ℕ) (first second : ℕ) : Type 0 where
  pub place : ℕ
  pub within : place + 1 < length text
  pub first_is : to_ascii_lowercase (slice_index text place) ≡ to_ascii_lowercase first
  pub second_is : to_ascii_lowercase (slice_index text (place + 1)) ≡ to_ascii_lowercase second

-- each two neighbours of a query are neighbours in a text
abbrev pub HasNeighbours : List ℕ → List ℕ → Type 0
HasNeighbours text query = (i : ℕ) → i + 1 < length query → AreNeighbours text (slice_index query i) (slice_index query (i + 1))
