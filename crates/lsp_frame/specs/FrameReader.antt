-- What a caller sees of a reader of frames: its source, and the end or fault that it has answered.
use Rattle.std.specs.Prelude.{◌≡◌, Option, None, Some, Result, Ok, Err}
use Rattle.lsp_frame.specs.declared.reader.FrameReader.{FrameReader}
use Rattle.lsp_frame.specs.declared.reader.LastAnswer.{LastAnswer}
use Rattle.lsp_frame.specs.declared.reader.LastAnswer.TheVariants.{AtEnd, Failed}
use Rattle.lsp_frame.specs.declared.reader.Frame.{Frame}
use Rattle.lsp_frame.specs.declared.reader.Frame.TheVariants.{Body, End}
use Rattle.lsp_frame.specs.declared.fault.FrameFault.{FrameFault}

-- what is answered again
abbrev pub repeated : LastAnswer → Result Frame FrameFault
repeated AtEnd = Ok End
repeated (Failed fault) = Err fault

-- what is kept of an answer: a body ends nothing
abbrev pub kept : Result Frame FrameFault → Option LastAnswer
kept (Ok (Body body)) = None
kept (Ok End) = Some AtEnd
kept (Err fault) = Some (Failed fault)

module _ {S : Type 0} where
  -- where the bytes come from
  abbrev pub source_of : FrameReader S → S
  source_of reader = reader.source

  -- the end or the fault that it has answered, and answers from then on
  abbrev pub last_answer : FrameReader S → Option LastAnswer
  last_answer reader = reader.answered

  -- it has answered no end and no fault
  abbrev pub IsOpen : FrameReader S → Type 0
  IsOpen reader = last_answer reader ≡ None
