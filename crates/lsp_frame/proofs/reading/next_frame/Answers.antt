use Rattle.std.proofs.Common.{sym, ap, ◌∙◌}
use Rattle.std.proofs.lemmas.Result.{err_from_is_err_and, IfErr-at_err}
use Rattle.lsp_frame.specs.Header.{body_length}
use Rattle.lsp_frame.proofs.Faults.{IsOfHeader, body_length-faults}
use Rattle.lsp_frame.proofs.Fronts.{no_header, at_end, bad_header, short_body, whole_frame, header_cause}
use Rattle.lsp_frame.proofs.reading.next_frame.Goals as goal

pub returns-in_err-header-clause-bytes : goal.returns-in_err-header-clause-bytes
returns-in_err-header-clause-bytes g c =
    let left = g.S.ByteSource.left in
    let p = err_from_is_err_and c.from_residual.result c.from_residual.ensures.1 in
    let now = left c.read_header.new.source in
    rw (p.1, p.2) (no_header (left c.args.source.now) now c.in_err-header.field-0.0 c.in_err-header.ensures.bytes)

pub returns-in_default-clause-bytes : goal.returns-in_default-clause-bytes
returns-in_default-clause-bytes g c =
    let left = g.S.ByteSource.left in
    let now = left c.read_header.new.source in
    at_end (left c.args.source.now) now (rw c.in_default.is at c.in_ok-header.ensures.bytes)

pub returns-in_err-length-clause-bytes : goal.returns-in_err-length-clause-bytes
returns-in_err-length-clause-bytes g c =
    let left = g.S.ByteSource.left in
    let p = err_from_is_err_and c.from_residual-in_err-length.result c.from_residual-in_err-length.ensures.1 in
    let now = left c.read_header.new.source in
    let header = c.in-Some.header.items in
    let bad = ap body_length (sym c.as_slice.ensures.value) ∙ sym c.in_err-length.ensures in
    rw (p.1, p.2) (bad_header (left c.args.source.now) now header c.in_err-length.field-0.0 (rw c.in-Some.is at c.in_ok-header.ensures.bytes) bad)

pub returns-in_err-length-clause-cause : goal.returns-in_err-length-clause-cause
returns-in_err-length-clause-cause g c =
    let p = err_from_is_err_and c.from_residual-in_err-length.result c.from_residual-in_err-length.ensures.1 in
    let counts = g.S.ByteSource.counts in
    rw (p.1, p.2) (header_cause (counts c.args.source.now) (counts c.read_header.new.source) c.in_err-length.field-0.0 (IfErr-at_err IsOfHeader (sym c.in_err-length.ensures) (body_length-faults c.as_slice.result.now)))

pub returns-in_err-body-clause-bytes : goal.returns-in_err-body-clause-bytes
returns-in_err-body-clause-bytes g c =
    let left = g.S.ByteSource.left in
    let p = err_from_is_err_and c.from_residual-in_err-body.result c.from_residual-in_err-body.ensures.1 in
    let now = left c.read_header.new.source in
    let header = c.in-Some.header.items in
    let good = ap body_length (sym c.as_slice.ensures.value) ∙ sym c.in_ok-length.ensures in
    rw (p.1, p.2) (short_body (left c.args.source.now) now (left c.read_body.new.source) header c.in_ok-length.length c.in_err-body.field-0.0 (rw c.in-Some.is at c.in_ok-header.ensures.bytes) good c.in_err-body.ensures.bytes)

pub returns-clause-bytes : goal.returns-clause-bytes
returns-clause-bytes g c =
    let left = g.S.ByteSource.left in
    let now = left c.read_header.new.source in
    let header = c.in-Some.header.items in
    let good = ap body_length (sym c.as_slice.ensures.value) ∙ sym c.in_ok-length.ensures in
    whole_frame (left c.args.source.now) now (left c.read_body.new.source) header c.in_ok-length.length c.in_ok-body.body (rw c.in-Some.is at c.in_ok-header.ensures.bytes) good c.in_ok-body.ensures.bytes
