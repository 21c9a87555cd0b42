-- How often a device has failed.
use Rattle.std.specs.Prelude.{◌≡◌, ℕ, ◌+◌, ◌^◌, ◌-◌, ◌≤◌, ◌⊎◌, ◌&&◌, List, length, nat_lt, ◌==◌, if◌then◌else◌, Result, Ok, Err}
use Rattle.lsp_frame.specs.declared.counts.Counts.{Counts}
use Rattle.lsp_frame.specs.declared.device.Fail.{Fail}
use Rattle.lsp_frame.specs.declared.device.Fail.TheVariants.{Error, Interrupted}

-- nothing has failed yet
abbrev pub no_counts : Counts
no_counts = record { errors = 0; interruptions = 0; in_a_row = 0 }

-- one more, up to `u64::MAX`
abbrev pub one_more : ℕ → ℕ
one_more n = if nat_lt n (2 ^ 64 - 1) then n + 1 else n

-- after a call that moved bytes: the interruptions before it are in a row no more
abbrev pub after_success : Counts → Counts
after_success c = record { errors = c.errors; interruptions = c.interruptions; in_a_row = 0 }

abbrev pub after_error : Counts → Counts
after_error c = record { errors = one_more c.errors; interruptions = c.interruptions; in_a_row = 0 }

abbrev pub after_interruption : Counts → Counts
after_interruption c = record { errors = c.errors; interruptions = one_more c.interruptions; in_a_row = one_more c.in_a_row }

-- after a call that moved none
abbrev pub after_fail : Counts → Fail → Counts
after_fail c Error = after_error c
after_fail c Interrupted = after_interruption c

-- the counts after a read
abbrev pub after_read : Counts → Result ℕ Fail → Counts
after_read c (Ok n) = after_success c
after_read c (Err fail) = after_fail c fail

-- the counts after a write of these bytes: an answer of 0 where there are some is an error
abbrev pub after_write : Counts → Result ℕ Fail → List ℕ → Counts
after_write c (Ok n) bytes = if n == 0 && nat_lt 0 (length bytes) then after_error c else after_success c
after_write c (Err fail) bytes = after_fail c fail

-- no total fell
pub record NoneFell (old new : Counts) : Type 0 where
  pub errors : old.errors ≤ new.errors
  pub interruptions : old.interruptions ≤ new.interruptions

-- no error came since then
abbrev pub NoError : Counts → Counts → Type 0
NoError old new = new.errors ≡ old.errors

-- the total rose by n, or is at `u64::MAX`, which counts as risen
abbrev pub RoseBy : ℕ → ℕ → ℕ → Type 0
RoseBy n old new = (old + n ≤ new) ⊎ (2 ^ 64 - 1 ≤ new)

-- how often in a row a device may be interrupted
abbrev pub max_interruptions : ℕ
max_interruptions = 1000000

-- So many interruptions in a row since then: the total rose by so many, and the last calls were so many
-- interruptions.
abbrev pub WasInterrupted : Counts → Counts → Type 0
WasInterrupted old new = RoseBy max_interruptions old.interruptions new.interruptions × (max_interruptions ≤ new.in_a_row)

-- the device has failed since then: by an error, or by interruptions in a row
abbrev pub HasFailed : Counts → Counts → Type 0
HasFailed old new = RoseBy 1 old.errors new.errors ⊎ WasInterrupted old new
