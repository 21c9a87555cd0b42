-- What a caller sees of the devices of this crate: how often each has failed, and how one over memory is set.
use Rattle.std.specs.Prelude.{◌≡◌, ℕ, ◌-◌, nat_lt, Bool, ◌&&◌, ◌==◌, if◌then◌else◌, length, min, Result, Ok, Err}
use Rattle.lsp_frame.specs.declared.counts.Counts.{Counts}
use Rattle.lsp_frame.specs.declared.device.Fail.{Fail}
use Rattle.lsp_frame.specs.declared.device.Fail.TheVariants.{Error, Interrupted}
use Rattle.lsp_frame.specs.declared.from_read.FromRead.{FromRead}
use Rattle.lsp_frame.specs.declared.memory.MemSink.{MemSink}
use Rattle.lsp_frame.specs.declared.memory.MemSource.{MemSource}
use Rattle.lsp_frame.specs.declared.to_write.ToWrite.{ToWrite}

-- the counts of a source over a reader of std
abbrev pub read_counts : {R : Type 0} → FromRead R → Counts
read_counts source = source.counts

-- the counts of a sink over a writer of std
abbrev pub write_counts : {W : Type 0} → ToWrite W → Counts
write_counts sink = sink.counts

-- a source that gives at most so many bytes at a time, still so many interruptions, and then fails behind its bytes
-- or ends there
abbrev pub SourceIsSet : MemSource → ℕ → ℕ → Bool → Type 0
SourceIsSet source piece interruptions fails = (source.piece ≡ piece) × (source.interruptions ≡ interruptions) × (source.fails ≡ fails)

-- a sink for so many bytes that takes at most `piece` at a time, behind still so many interruptions, and then
-- answers 0 behind its room or fails there
abbrev pub SinkIsSet : MemSink → ℕ → ℕ → ℕ → Bool → Type 0
SinkIsSet sink room piece interruptions zero = (sink.room ≡ room) × (sink.piece ≡ piece) × (sink.interruptions ≡ interruptions) × (sink.zero ≡ zero)

-- after a call a source is set as before, but for an interruption that came
abbrev pub SourceStaysSet : MemSource → MemSource → Type 0
SourceStaysSet old new = SourceIsSet new old.piece (old.interruptions - 1) old.fails

-- after a call a sink is set as before, but for an interruption that came
abbrev pub SinkStaysSet : MemSink → MemSink → Type 0
SinkStaysSet old new = SinkIsSet new old.room old.piece (old.interruptions - 1) old.zero

-- what a source answers to a buffer of so many bytes: first its interruptions; then, behind its bytes, an error where it
-- is so set, and else what is left, at most a piece of it
abbrev pub source_answer : MemSource → ℕ → Result ℕ Fail
source_answer source room =
    let left = length source.bytes.items - source.taken in
    if nat_lt 0 source.interruptions then Err Interrupted
    else (if left == 0 && source.fails then Err Error else Ok (min (min left source.piece) room))

-- what a sink answers to so many bytes: first its interruptions; then 0 to no bytes; behind its room 0 or an error, as it
-- is set, and else how many there is room for, at most a piece of them
abbrev pub sink_answer : MemSink → ℕ → Result ℕ Fail
sink_answer sink count =
    let left = sink.room - length sink.bytes.items in
    if nat_lt 0 sink.interruptions then Err Interrupted
    else (if count == 0 then Ok 0
    else (if left == 0 then (if sink.zero then Ok 0 else Err Error) else Ok (min (min left sink.piece) count)))
