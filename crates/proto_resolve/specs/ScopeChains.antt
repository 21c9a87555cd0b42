-- Scopes that are parts at the front of one text.
use Rattle.std.specs.Prelude.{ℕ, List, map, take, reverse}

-- the parts of these lengths at the front of a text, the last length first
abbrev pub front_parts : List ℕ → List ℕ → List (List ℕ)
front_parts text lengths = map (λ n. take n text) (reverse lengths)
