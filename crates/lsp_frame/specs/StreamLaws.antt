-- A stream as a whole: frames one after the other, and a rest that none begins.
use Rattle.std.specs.Prelude.{◌≡◌, ℕ, ◌≤◌, List, [], ◌∷◌, ◌++◌, length}
use Rattle.lsp_frame.specs.declared.fault.FrameFault.{FrameFault}
use Rattle.lsp_frame.specs.Fault.{code_of}
use Rattle.lsp_frame.specs.Header.{max_body}
use Rattle.lsp_frame.specs.Stream.{StreamEnd, BadFrame, Whole, NoFrame, first_frame, frames}
use Rattle.lsp_frame.specs.Writing.{frame_of}

-- a whole frame with this body and nothing behind it
abbrev pub IsFrame : List ℕ → List ℕ → Type 0
IsFrame frame body = first_frame frame ≡ Whole body []

-- the bytes are frames with these bodies, one after the other, and then the rest
abbrev pub AreFrames : List ℕ → List (List ℕ) → List ℕ → Type 0
AreFrames bytes [] rest = bytes ≡ rest
AreFrames bytes (body ∷ bodies) rest = (frame : List ℕ) × (behind : List ℕ) × IsFrame frame body × (bytes ≡ frame ++ behind) × AreFrames behind bodies rest

-- each stream is its frames and a rest that none begins, which shows its end
abbrev pub StreamsAreFrames : Type 0
StreamsAreFrames = (bytes : List ℕ) → (rest : List ℕ) × AreFrames bytes (frames bytes).bodies rest × (first_frame rest ≡ NoFrame (frames bytes).end)

-- and in no other way
abbrev pub FramesAreUnique : Type 0
FramesAreUnique = (bytes : List ℕ) (bodies : List (List ℕ)) (rest : List ℕ) (end : StreamEnd) → AreFrames bytes bodies rest → first_frame rest ≡ NoFrame end → frames bytes ≡ record { bodies = bodies; end = end }

-- calls on these bytes, each on what the one before left, answer these bodies and then this end
abbrev pub InTurn : List ℕ → List (List ℕ) → StreamEnd → Type 0
InTurn bytes [] end = first_frame bytes ≡ NoFrame end
InTurn bytes (body ∷ bodies) end = (rest : List ℕ) × (first_frame bytes ≡ Whole body rest) × InTurn rest bodies end

-- calls in turn answer the frames
abbrev pub TurnsAreFrames : Type 0
TurnsAreFrames = (bytes : List ℕ) (bodies : List (List ℕ)) (end : StreamEnd) → InTurn bytes bodies end → frames bytes ≡ record { bodies = bodies; end = end }

-- a stream that ends with a fault ends with one of 101 to 106: its bytes show no other
abbrev pub StreamsShowTheirFaults : Type 0
StreamsShowTheirFaults = (bytes : List ℕ) (fault : FrameFault) → (frames bytes).end ≡ BadFrame fault → (101 ≤ code_of fault) × (code_of fault ≤ 106)

-- what is written of a body, at most the longest, is a whole frame with this body
abbrev pub WrittenFramesAreWhole : Type 0
WrittenFramesAreWhole = (body : List ℕ) → length body ≤ max_body → IsFrame (frame_of body) body
