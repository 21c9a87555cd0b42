use Rattle.std.proofs.Common.{◌+◌, ◌∷◌, [], length, arith, ap, sym, ◌∙◌, length-append}
use Rattle.std.proofs.lemmas.Bool.{eqb-true, eqb-false}
use Rattle.std.proofs.KnownBytes.{Consumes-trans}
use Rattle.std.proofs.lemmas.Result.{err_from_is_err_and}
use Rattle.lsp_frame.specs.Header.{is_whole_header}
use Rattle.lsp_frame.proofs.CountsLemmas.{NoneFell-trans}
use Rattle.lsp_frame.proofs.Headers.{stopped_in_header, filled_in_header, ended_empty, ended_within, too_long, closed, NoneWhole-push}
use Rattle.lsp_frame.proofs.reading.read_header.Goals as goal

pub returns-in_err-byte-clause-bytes : goal.returns-in_err-byte-clause-bytes
returns-in_err-byte-clause-bytes g c =
    let left = g.S.ByteSource.left in
    let at = c.loop-taken in
    let p = err_from_is_err_and c.from_residual.result c.from_residual.ensures.1 in
    let none = rw (← at.invariant.len) at at.invariant.none_whole in
    rw (p.1, p.2, c.in_err-byte.ensures.fault) (stopped_in_header (left c.args.source.now) (left at.source) (left c.read_byte.new.source) at.header.items at.invariant.consumed c.in_err-byte.ensures.bytes (omega (arith, at.invariant.len)) none)

pub returns-then-not-is_empty-clause-bytes : goal.returns-then-not-is_empty-clause-bytes
returns-then-not-is_empty-clause-bytes g c =
    let at = c.loop-taken in
    let none = rw (← at.invariant.len) at at.invariant.none_whole in
    let some = eqb-false _ _ (sym c.is_empty.ensures ∙ c.if-not-is_empty.true) in
    ended_within _ _ _ _ at.invariant.consumed (rw c.in_default.is at c.in_ok-byte.ensures.bytes) (omega (arith, some, at.header.ok.0)) (omega (arith, at.invariant.len)) none

pub returns-in_default-clause-bytes : goal.returns-in_default-clause-bytes
returns-in_default-clause-bytes g c =
    let at = c.loop-taken in
    let none = rw (← at.invariant.len) at at.invariant.none_whole in
    let empty = eqb-true _ _ (sym c.is_empty.ensures ∙ c.if-not-is_empty.false) in
    ended_empty _ _ _ _ at.invariant.consumed (rw c.in_default.is at c.in_ok-byte.ensures.bytes) (omega (arith, empty, at.header.ok.0)) none

pub returns-in_err-push_byte-clause-bytes : goal.returns-in_err-push_byte-clause-bytes
returns-in_err-push_byte-clause-bytes g c =
    let left = g.S.ByteSource.left in
    let at = c.loop-taken in
    let p = err_from_is_err_and c.from_residual-in_err-push_byte.result c.from_residual-in_err-push_byte.ensures.1 in
    let next = rw c.in-Some.is at c.in_ok-byte.ensures.bytes in
    rw (p.1, p.2, c.in_err-push_byte.ensures.fault)
    (filled_in_header (left c.args.source.now) (left at.source) (left c.read_byte.new.source) at.header.items c.in-Some.byte at._taken at.invariant.consumed next at.invariant.len (omega arith) at.invariant.none_whole)

pub returns-then-is_whole_header-clause-bytes : goal.returns-then-is_whole_header-clause-bytes
returns-then-is_whole_header-clause-bytes g c =
    let at = c.loop-taken in
    let here = ap is_whole_header (sym c.as_slice.ensures.value) ∙ sym c.is_whole_header.ensures ∙ c.if-is_whole_header.true in
    closed _ _ _ _ _ c.in-Some.byte at._taken at.invariant.consumed (rw c.in-Some.is at c.in_ok-byte.ensures.bytes) c.in_ok-push_byte.ensures.ok at.invariant.len (omega arith) at.invariant.none_whole here

pub loop-taken-preserved : goal.loop-taken-preserved
loop-taken-preserved g c =
    let at = c.loop-taken in
    let grown = c.in_ok-push_byte.ensures.ok in
    let open_still = ap is_whole_header (sym grown ∙ sym c.as_slice.ensures.value) ∙ sym c.is_whole_header.ensures ∙ c.if-is_whole_header.false in
    record {
      none_fell = NoneFell-trans at.invariant.none_fell c.read_byte.ensures.counts;
      no_error = c.in_ok-byte.ensures.calm ∙ at.invariant.no_error;
      len = ap length grown ∙ length-append at.header.items (c.in-Some.byte ∷ []) ∙ ap (λ n. n + 1) at.invariant.len;
      consumed = rw grown (Consumes-trans _ _ _ at.header.items (c.in-Some.byte ∷ []) at.invariant.consumed (rw c.in-Some.is at c.in_ok-byte.ensures.bytes));
      none_whole = rw grown (NoneWhole-push at.header.items at._taken c.in-Some.byte at.invariant.len at.invariant.none_whole open_still);
    }

pub returns-clause-bytes : goal.returns-clause-bytes
returns-clause-bytes g c =
    let at = c.loop-taken in
    let none = rw (← at.invariant.len) at at.invariant.none_whole in
    too_long _ _ _ at.invariant.consumed (omega (arith, at.invariant.len)) none
