-- What `read_frame` answers of a stream, and what it leaves of it.
use Rattle.std.specs.Prelude.{◌≡◌, ◌⊎◌, ℕ, List, [], ◌++◌, Option, Some, Result, Ok, Err, ⊤}
use Rattle.lsp_frame.specs.Counts.{NoError, HasFailed}
use Rattle.lsp_frame.specs.Stream.{StreamEnd, Whole, NoFrame, InputEnd, BadFrame, first_frame, frames, with_body, no_frames, left_behind}
use Rattle.lsp_frame.specs.StreamLaws.{IsFrame}
use Rattle.lsp_frame.specs.declared.counts.Counts.{Counts}
use Rattle.lsp_frame.specs.declared.reader.Frame.{Frame}
use Rattle.lsp_frame.specs.declared.reader.Frame.TheVariants.{Body, End}
use Rattle.lsp_frame.specs.declared.fault.FrameFault.{FrameFault}
use Rattle.lsp_frame.specs.declared.fault.FrameFault.TheVariants.{Truncated, Read, Memory}

-- the first frame of the bytes has this body, and what is behind it is left
pub record TakesFrame (bytes : List ℕ) (left : Option (List ℕ)) (body : List ℕ) : Type 0 where
  pub rest : List ℕ
  pub first : first_frame bytes ≡ Whole body rest
  pub others : frames bytes ≡ with_body body (frames rest)
  pub is_left : left ≡ Some rest

-- no whole frame begins the bytes, which end so, and no byte is taken that isn't needed to tell
pub record ShowsEnd (bytes : List ℕ) (left : Option (List ℕ)) (end : StreamEnd) : Type 0 where
  pub first : first_frame bytes ≡ NoFrame end
  pub none : frames bytes ≡ no_frames end
  pub is_left : left ≡ Some (left_behind bytes)

-- Some of the bytes were taken. They don't begin with a whole frame, and show no fault but that they end; none of them is behind the
-- frame, and the others are left.
pub record BreaksOff (bytes : List ℕ) (left : Option (List ℕ)) : Type 0 where
  pub taken : List ℕ
  pub rest : List ℕ
  pub joined : bytes ≡ taken ++ rest
  pub is_left : left ≡ Some rest
  pub end : StreamEnd
  pub first : first_frame taken ≡ NoFrame end
  pub unfinished : (end ≡ InputEnd) ⊎ (end ≡ BadFrame Truncated)
  pub needed : left_behind taken ≡ []

-- Some of the bytes were taken. They don't begin with a whole frame, or are one; none of them is behind the frame, nor behind what
-- shows that it is a bad one, and the others are left.
pub record RunsOut (bytes : List ℕ) (left : Option (List ℕ)) : Type 0 where
  pub taken : List ℕ
  pub rest : List ℕ
  pub joined : bytes ≡ taken ++ rest
  pub is_left : left ≡ Some rest
  pub within : ((end : StreamEnd) × (first_frame taken ≡ NoFrame end)) ⊎ ((body : List ℕ) × IsFrame taken body)
  pub needed : left_behind taken ≡ []

-- A fault that the bytes show. One of the reader comes within a frame, and one of memory within a frame or at its last byte; behind
-- it no byte is taken.
abbrev pub Shows : List ℕ → Option (List ℕ) → FrameFault → Type 0
Shows bytes left Read = BreaksOff bytes left
Shows bytes left Memory = RunsOut bytes left
Shows bytes left fault = ShowsEnd bytes left (BadFrame fault)

-- what was answered of the bytes, and what is left of them; the end comes at a frame's border alone
abbrev pub Answers : List ℕ → Option (List ℕ) → Result Frame FrameFault → Type 0
Answers bytes left (Ok (Body body)) = TakesFrame bytes left body.items
Answers bytes left (Ok End) = (bytes ≡ []) × ShowsEnd bytes left InputEnd
Answers bytes left (Err fault) = Shows bytes left fault

-- a fault of the reader comes only where it failed
abbrev pub HasCause : Counts → Counts → FrameFault → Type 0
HasCause old new Read = HasFailed old new
HasCause old new fault = ⊤

-- an error of the source is answered at once: beside every other fault none came
abbrev pub NoErrorUnlessRead : Counts → Counts → FrameFault → Type 0
NoErrorUnlessRead old new Read = ⊤
NoErrorUnlessRead old new fault = NoError old new
