use Rattle.std.proofs.Common.{◌≡◌, ◌+◌, subst}
use Rattle.std.specs.Str.{IsCharBoundary}
use Rattle.std.proofs.lemmas.List.{take_rest}
use Rattle.doc_text.specs.Positions.{offset_of}
use Rattle.doc_text.proofs.Ways.{line_way, way_rest}
use Rattle.doc_text.proofs.Walks.{offset_from, boundary_from}
use Rattle.doc_text.proofs.scan.offset_of.Goals as goal

pub run_len-requires : goal.run_len-requires
run_len-requires c =
    way_rest _ _ _ _ (line_way _ _ _ c.as_bytes-bytes.ensures.utf8 c.line_start-start.ensures.value) (take_rest c.as_bytes-bytes.result.now c.line_start-start.result)

pub returns-clause-value : goal.returns-clause-value
returns-clause-value c =
    subst (λ text. c.line_start-start.result + c.run_len.result ≡ offset_of c.args.encoding c.args.position text) c.as_bytes-bytes.ensures.value
    (offset_from _ _ _ _ _ _ (line_way _ _ _ c.as_bytes-bytes.ensures.utf8 c.line_start-start.ensures.value)
    (take_rest c.as_bytes-bytes.result.now c.line_start-start.result) c.run_len.ensures.value)

pub returns-clause-boundary : goal.returns-clause-boundary
returns-clause-boundary c =
    subst (λ text. IsCharBoundary text (c.line_start-start.result + c.run_len.result)) c.as_bytes-bytes.ensures.value
    (boundary_from _ _ _ _ c.line_start-start.ensures.in_range (take_rest c.as_bytes-bytes.result.now c.line_start-start.result) c.run_len.ensures.in_range c.run_len.ensures.rest)
