-- The fault that a stream ends with.
use Rattle.std.proofs.Common.{◌≡◌, ℕ, List}
use Rattle.lsp_frame.specs.Stream.{BadFrame, frames}
use Rattle.lsp_frame.specs.declared.fault.FrameFault.{FrameFault}
use Rattle.lsp_frame.proofs.Shown.{IsShown, shown}
use Rattle.lsp_frame.proofs.Splits.{all_frames}

pub streams_show_their_faults : (bytes : List ℕ) (fault : FrameFault) → (frames bytes).end ≡ BadFrame fault → IsShown fault
streams_show_their_faults bytes fault e =
    let cut = all_frames bytes in
    shown cut.0 fault (rw e at cut.2)
