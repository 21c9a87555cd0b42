-- The faults that bytes show.
use Rattle.std.proofs.Common.{◌≡◌, ℕ, ◌≤◌, true, false, Bool, cond, List, length, take, drop, arith, refl, subst, eqb, nat_lt, nat_le, Option, None, Some, Result, Ok, Err}
use Rattle.std.specs.Prelude.{IfErr}
use Rattle.lsp_frame.specs.Fault.{code_of}
use Rattle.lsp_frame.specs.Header.{body_length}
use Rattle.lsp_frame.specs.Stream.{header_len, without_header, InputEnd, BadFrame, Whole, NoFrame, first_frame, behind_header}
use Rattle.lsp_frame.specs.declared.fault.FrameFault.{FrameFault}
use Rattle.lsp_frame.specs.declared.fault.FrameFault.TheVariants.{BadHeader, NoLength, BadLength, BodyTooLong, HeaderTooLong, Truncated, Read, Memory}
use Rattle.lsp_frame.proofs.Faults.{IsOfHeader, body_length-faults}

-- a fault that bytes show
abbrev pub IsShown : FrameFault → Type 0
IsShown fault = (101 ≤ code_of fault) × (code_of fault ≤ 106)

of_header : (fault : FrameFault) → IsOfHeader fault → IsShown fault
of_header BadHeader h = (omega arith, omega arith)
of_header NoLength h = (omega arith, omega arith)
of_header BadLength h = (omega arith, omega arith)
of_header BodyTooLong h = (omega arith, omega arith)
of_header HeaderTooLong h = absurd h
of_header Truncated h = absurd h
of_header Read h = absurd h
of_header Memory h = absurd h

headless : (long none : Bool) (fault : FrameFault) → cond long (BadFrame HeaderTooLong) (cond none InputEnd (BadFrame Truncated)) ≡ BadFrame fault → IsShown fault
headless true none fault e = let same : HeaderTooLong ≡ fault = cc in subst IsShown same (omega arith, omega arith)
headless false true fault e = cc
headless false false fault e = let same : Truncated ≡ fault = cc in subst IsShown same (omega arith, omega arith)

bodiless : (short : Bool) (body rest : List ℕ) (fault : FrameFault) → cond short (NoFrame (BadFrame Truncated)) (Whole body rest) ≡ NoFrame (BadFrame fault) → IsShown fault
bodiless true body rest fault e = let same : Truncated ≡ fault = cc in subst IsShown same (omega arith, omega arith)
bodiless false body rest fault e = cc

behind : (rest : List ℕ) (announced : Result ℕ FrameFault) (fault : FrameFault) → IfErr announced IsOfHeader → behind_header rest announced ≡ NoFrame (BadFrame fault) → IsShown fault
behind rest (Err found) fault of e = let same : found ≡ fault = cc in subst IsShown same (of_header found of)
behind rest (Ok n) fault of e = bodiless (nat_lt (length rest) n) (take n rest) (drop n rest) fault e

pub shown : (bytes : List ℕ) (fault : FrameFault) → first_frame bytes ≡ NoFrame (BadFrame fault) → IsShown fault
unfolding first_frame
shown bytes fault e = by_header (header_len bytes) refl
  where
    by_header : (found : Option ℕ) → header_len bytes ≡ found → IsShown fault
    by_header None is = let at_end : NoFrame (without_header bytes) ≡ NoFrame (BadFrame fault) = (rw is at e) in headless (nat_le 8192 (length bytes)) (eqb (length bytes) 0) fault cc
    by_header (Some n) is = behind (drop n bytes) (body_length (take n bytes)) fault (body_length-faults (take n bytes)) (rw is at e)
