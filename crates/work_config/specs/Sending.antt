-- What a session or a check sends.
use Rattle.std.specs.Prelude.{ℕ, ◌≤◌, List, length, take, Option}
use Rattle.std.specs.Io.KnownBytes.{Appends}

-- a prefix of the bytes went out
abbrev pub SendsPrefix : Option (List ℕ) → Option (List ℕ) → List ℕ → Type 0
SendsPrefix old new bytes = (n : ℕ) × (n ≤ length bytes) × Appends old new (take n bytes)
