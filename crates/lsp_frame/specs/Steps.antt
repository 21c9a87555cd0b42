-- What the private steps of reading a header, reading a frame and writing one promise each other.
use Rattle.std.specs.Prelude.{◌≡◌, ℕ, ◌+◌, ◌-◌, ◌<◌, ◌≤◌, ◌⊎◌, List, [], ◌∷◌, ◌++◌, length, take, drop, if◌then◌else◌, Option, None, Some, Result, Ok, Err}
use Rattle.std.specs.Global.{Vec}
use Rattle.std.specs.Io.KnownBytes.{Consumes, Keeps, IsAtEnd}
use Rattle.lsp_frame.specs.Header.{between_line_ends, is_some_line}
use Rattle.lsp_frame.specs.Stream.{max_header, header_len, without_header, InputEnd, BadFrame}
use Rattle.lsp_frame.specs.Writing.{SendsPrefix}
use Rattle.lsp_frame.specs.declared.fault.FrameFault.{FrameFault}
use Rattle.lsp_frame.specs.declared.fault.FrameFault.TheVariants.{Read, Memory, Truncated}

-- the first line ends there, or the bytes are one line without an end
abbrev pub EndsLine : List ℕ → Option ℕ → Type 0
EndsLine bytes None = between_line_ends bytes ≡ bytes ∷ []
EndsLine bytes (Some end) = (end + 2 ≤ length bytes) × (between_line_ends bytes ≡ take end bytes ∷ between_line_ends (drop (end + 2) bytes))

-- this line and those after it, up to an empty one
abbrev pub up_to_empty : List ℕ → List (List ℕ) → List (List ℕ)
up_to_empty line lines = if is_some_line line then line ∷ lines else []

-- the next byte was taken, or there is none
abbrev pub TakesByte : Option (List ℕ) → Option (List ℕ) → Option ℕ → Type 0
TakesByte old new None = Keeps old new × IsAtEnd old
TakesByte old new (Some b) = Consumes old new (b ∷ [])

-- n bytes, at most `room`, were taken onto the end of the list, and none only at the end
pub record TakesSome (old new : Option (List ℕ)) (before after : List ℕ) (room n : ℕ) : Type 0 where
  pub got : List ℕ
  pub appended : after ≡ before ++ got
  pub consumed : Consumes old new got
  pub count : length got ≡ n
  pub within : n ≤ room
  pub end : n ≡ 0 → IsAtEnd new

-- some bytes were taken, fewer than the longest header part has, that no header part begins, and the others are left
pub record StopsInHeader (bytes : List ℕ) (left : Option (List ℕ)) : Type 0 where
  pub taken : List ℕ
  pub consumed : Consumes (Some bytes) left taken
  pub none : header_len taken ≡ None
  pub short : length taken < max_header

-- some bytes were taken, fewer than n, and the others are left
pub record StopsInBody (bytes : List ℕ) (n : ℕ) (left : Option (List ℕ)) : Type 0 where
  pub taken : List ℕ
  pub consumed : Consumes (Some bytes) left taken
  pub short : length taken < n

-- some bytes were taken, at most those of the longest header part, in which none ends or one at the last of them, and the others are left
pub record FillsInHeader (bytes : List ℕ) (left : Option (List ℕ)) : Type 0 where
  pub taken : List ℕ
  pub consumed : Consumes (Some bytes) left taken
  pub ends : (header_len taken ≡ None) ⊎ (header_len taken ≡ Some (length taken))
  pub within : length taken ≤ max_header

-- some bytes were taken, at most n, and the others are left
pub record FillsInBody (bytes : List ℕ) (n : ℕ) (left : Option (List ℕ)) : Type 0 where
  pub taken : List ℕ
  pub consumed : Consumes (Some bytes) left taken
  pub within : length taken ≤ n

-- at most n bytes were taken
abbrev pub TakesAtMost : Option (List ℕ) → Option (List ℕ) → ℕ → Type 0
TakesAtMost old new n = (got : List ℕ) × Consumes old new got × (length got ≤ n)

-- the header part at the front was taken, or there is none for that reason
abbrev pub TakesHeader : List ℕ → Option (List ℕ) → Result (Option (Vec ℕ)) FrameFault → Type 0
TakesHeader bytes left (Ok (Some header)) = (header_len bytes ≡ Some (length header.items)) × Consumes (Some bytes) left header.items
TakesHeader bytes left (Ok None) = (header_len bytes ≡ None) × (without_header bytes ≡ InputEnd) × (left ≡ Some (drop max_header bytes))
TakesHeader bytes left (Err Read) = StopsInHeader bytes left
TakesHeader bytes left (Err Memory) = FillsInHeader bytes left
TakesHeader bytes left (Err fault) = (header_len bytes ≡ None) × (without_header bytes ≡ BadFrame fault) × (left ≡ Some (drop max_header bytes))

-- a body of n bytes was taken, or there are fewer, and none is left
abbrev pub TakesBody : List ℕ → ℕ → Option (List ℕ) → Result (Vec ℕ) FrameFault → Type 0
TakesBody bytes n left (Ok body) = (length body.items ≡ n) × Consumes (Some bytes) left body.items
TakesBody bytes n left (Err Read) = StopsInBody bytes n left
TakesBody bytes n left (Err Memory) = FillsInBody bytes n left
TakesBody bytes n left (Err fault) = (fault ≡ Truncated) × (length bytes < n) × (left ≡ Some [])

-- a fault that no bytes show
abbrev pub IsOutside : FrameFault → Type 0
IsOutside fault = (fault ≡ Read) ⊎ (fault ≡ Memory)

-- the first bytes of a part went out, which follows `before` bytes, and not all
abbrev pub SendsPrefixAfter : Option (List ℕ) → Option (List ℕ) → List ℕ → ℕ → ℕ → Type 0
SendsPrefixAfter old new part before n = (before ≤ n) × SendsPrefix old new part (n - before)
