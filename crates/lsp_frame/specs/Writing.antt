-- What a frame's writer sends.
use Rattle.std.specs.Prelude.{ℕ, ◌<◌, List, ◌++◌, length, take, codes, decimal, Option}
use Rattle.std.specs.Io.KnownBytes.{Appends}

-- a frame: its header part and its body
abbrev pub frame_of : List ℕ → List ℕ
frame_of body = codes "Content-Length: " ++ decimal (length body) ++ codes "\r\n\r\n" ++ body

-- the first n bytes went out, and not all
abbrev pub SendsPrefix : Option (List ℕ) → Option (List ℕ) → List ℕ → ℕ → Type 0
SendsPrefix old new bytes n = (n < length bytes) × Appends old new (take n bytes)
