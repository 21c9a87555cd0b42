-- Worked streams.
use Rattle.std.proofs.Common.{◌≡◌, ◌⊎◌, ◌∙◌, inl, inr, ℕ, List, [], ◌∷◌, ◌++◌, Some, refl, sym, ap, append-nil}
use Rattle.std.specs.Prelude.{codes, Ok, Err}
use Rattle.lsp_frame.specs.Header.{body_length, header_lines}
use Rattle.lsp_frame.specs.Reading.{BreaksOff, RunsOut}
use Rattle.lsp_frame.specs.Stream.{least_below, header_len, first_frame, frames, frames_within, left_behind, StreamEnd, InputEnd, BadFrame, Whole, NoFrame}
use Rattle.lsp_frame.specs.declared.fault.FrameFault.TheVariants.{BadHeader, NoLength, BadLength, BodyTooLong, Truncated}

lines : header_lines (codes "A: b\r\nContent-Length:  7 \r\n\r\n") ≡ codes "A: b" ∷ codes "Content-Length:  7 " ∷ []
lines = refl

length : body_length (codes "A: b\r\ncontent-LENGTH:  7 \r\n\r\n") ≡ Ok 7
length = refl

-- the last length counts
last : body_length (codes "Content-Length: 3\r\nContent-Length: 4\r\n\r\n") ≡ Ok 4
last = refl

first_fault : body_length (codes "Content-Length: x\r\nnone\r\n\r\n") ≡ Err BadLength
first_fault = refl

no_name : body_length (codes ": 1\r\nContent-Length: x\r\n\r\n") ≡ Err BadHeader
no_name = refl

none : body_length (codes "\r\n") ≡ Err NoLength
none = refl

too_long : body_length (codes "Content-Length: 67108865\r\n\r\n") ≡ Err BodyTooLong
too_long = refl

eleven_digits : body_length (codes "Content-Length: 00000000001\r\n\r\n") ≡ Err BadLength
eleven_digits = refl

-- a lone `\n` ends no line
lone : first_frame (codes "Content-Length: 1\n\nx") ≡ NoFrame (BadFrame Truncated)
unfolding first_frame header_len least_below
lone = refl

empty_frame : first_frame (codes "Content-Length: 0\r\n\r\nContent") ≡ Whole [] (codes "Content")
unfolding first_frame header_len least_below
empty_frame = refl

truncated : first_frame (codes "Content-Length: 10\r\n\r\nabc") ≡ NoFrame (BadFrame Truncated)
unfolding first_frame header_len least_below
truncated = refl

two : frames (codes "Content-Length: 0\r\n\r\nContent-Length: 33\r\n\r\n{\"jsonrpc\":\"2.0\",\"method\":\"exit\"}") ≡ record { bodies = [] ∷ codes "{\"jsonrpc\":\"2.0\",\"method\":\"exit\"}" ∷ []; end = InputEnd }
unfolding frames frames_within first_frame header_len least_below
two = refl

-- ---- behind a bad header part

bad_header : first_frame (codes ": 1\r\n\r\n") ≡ NoFrame (BadFrame BadHeader)
unfolding first_frame header_len least_below
bad_header = refl

behind_bad_header : left_behind (codes ": 1\r\n\r\na") ≡ codes "a"
unfolding left_behind header_len least_below
behind_bad_header = refl

-- what was taken where nothing is left
all_taken : (bytes taken rest : List ℕ) → bytes ≡ taken ++ rest → Some [] ≡ Some rest → bytes ≡ taken
all_taken bytes taken rest joined none_left = let none : rest ≡ [] = cc in joined ∙ ap (λ l. taken ++ l) none ∙ append-nil taken

-- no byte behind it is taken where memory is refused
takes_none_behind : RunsOut (codes ": 1\r\n\r\na") (Some []) → ⊥
takes_none_behind h =
    let all = all_taken (codes ": 1\r\n\r\na") h.taken h.rest h.joined h.is_left in
    let none : codes "a" ≡ [] = sym behind_bad_header ∙ ap left_behind all ∙ h.needed in
    cc

-- a failure of the reader behind it isn't answered in its place
keeps_bad_header : BreaksOff (codes ": 1\r\n\r\n") (Some []) → ⊥
keeps_bad_header h =
    let all = all_taken (codes ": 1\r\n\r\n") h.taken h.rest h.joined h.is_left in
    not_unfinished h.end (sym bad_header ∙ ap first_frame all ∙ h.first) h.unfinished
  where
    not_unfinished : (end : StreamEnd) → NoFrame (BadFrame BadHeader) ≡ NoFrame end → (end ≡ InputEnd) ⊎ (end ≡ BadFrame Truncated) → ⊥
    not_unfinished end is (inl e) = cc
    not_unfinished end is (inr e) = cc
