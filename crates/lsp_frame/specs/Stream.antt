-- A stream of bytes as frames (Language Server Protocol 3.17, base protocol).
use Rattle.std.specs.Prelude.{ℕ, zero, suc, ◌+◌, Bool, List, [], ◌∷◌, length, take, drop, min, nat_lt, nat_le, ◌==◌, if◌then◌else◌, Option, Some, None, Result, Ok, Err}
use Rattle.std.specs.Option.{option_or}
use Rattle.lsp_frame.specs.Header.{is_whole_header, body_length}
use Rattle.lsp_frame.specs.declared.fault.FrameFault.{FrameFault}
use Rattle.lsp_frame.specs.declared.fault.FrameFault.TheVariants.{HeaderTooLong, Truncated}

-- how a stream ends where no whole frame begins: there is nothing, or a fault
pub data StreamEnd : Type 0 where
  InputEnd : StreamEnd
  BadFrame : FrameFault → StreamEnd

-- what a stream begins with: a whole frame, by its body and the bytes behind it, or none
pub data FirstFrame : Type 0 where
  Whole : List ℕ → List ℕ → FirstFrame
  NoFrame : StreamEnd → FirstFrame

-- the longest header part, in bytes
abbrev pub max_header : ℕ
max_header = 8192

-- the least number below n that passes
unfoldable pub least_below : ℕ → (ℕ → Bool) → Option ℕ
least_below zero p = None
least_below (suc n) p = option_or (least_below n p) (if p n then Some n else None)

-- how long the header part at the front is: the shortest front that is a whole one
unfoldable pub header_len : List ℕ → Option ℕ
header_len bytes = least_below (min max_header (length bytes) + 1) (λ n. is_whole_header (take n bytes))

-- what stands behind a header part that announces so long a body
abbrev pub behind_header : List ℕ → Result ℕ FrameFault → FirstFrame
behind_header rest (Err fault) = NoFrame (BadFrame fault)
behind_header rest (Ok n) = if nat_lt (length rest) n then NoFrame (BadFrame Truncated) else Whole (take n rest) (drop n rest)

-- how a stream ends that begins with no whole header part
abbrev pub without_header : List ℕ → StreamEnd
without_header bytes = if nat_le max_header (length bytes) then BadFrame HeaderTooLong else (if length bytes == 0 then InputEnd else BadFrame Truncated)

abbrev pub first_frame_at : List ℕ → Option ℕ → FirstFrame
first_frame_at bytes None = NoFrame (without_header bytes)
first_frame_at bytes (Some n) = behind_header (drop n bytes) (body_length (take n bytes))

-- what the stream begins with
unfoldable pub first_frame : List ℕ → FirstFrame
first_frame bytes = first_frame_at bytes (header_len bytes)

-- the bodies of a stream, and its end
pub record Frames : Type 0 where
  pub bodies : List (List ℕ)
  pub end : StreamEnd

-- a body, and then these frames
abbrev pub with_body : List ℕ → Frames → Frames
with_body body frames = record { bodies = body ∷ frames.bodies; end = frames.end }

abbrev pub no_frames : StreamEnd → Frames
no_frames end = record { bodies = []; end = end }

-- what the stream begins with, and then the frames of what is behind it
abbrev pub and_then : (List ℕ → Frames) → FirstFrame → Frames
and_then frames_behind (Whole body rest) = with_body body (frames_behind rest)
and_then frames_behind (NoFrame end) = no_frames end

-- at most n frames, one after the other
unfoldable pub frames_within : ℕ → List ℕ → Frames
frames_within zero bytes = no_frames InputEnd
frames_within (suc n) bytes = and_then (frames_within n) (first_frame bytes)

-- the bodies of a stream's frames, and its end: each frame takes a byte or more
unfoldable pub frames : List ℕ → Frames
frames bytes = frames_within (suc (length bytes)) bytes

-- what is left of the bytes behind a header part: all where it is a bad one, nothing where the body is cut off
abbrev pub left_of_body : List ℕ → Result ℕ FrameFault → List ℕ
left_of_body rest (Err fault) = rest
left_of_body rest (Ok n) = []

abbrev pub left_at : List ℕ → Option ℕ → List ℕ
left_at bytes None = drop max_header bytes
left_at bytes (Some n) = left_of_body (drop n bytes) (body_length (take n bytes))

-- What is left of a stream that no whole frame begins, where the reader takes no byte more than it needs to tell
-- so: all behind a bad header part or behind the longest one, and nothing where the input ends too soon.
unfoldable pub left_behind : List ℕ → List ℕ
left_behind bytes = left_at bytes (header_len bytes)
