use Rattle.std.proofs.Common.{◌≡◌, ◌+◌, ◌-◌, get_or, arith, ap, ◌∙◌}
use Rattle.lsp_frame.proofs.Lines.{between_line_ends-at, no_end_at_all}
use Rattle.lsp_frame.proofs.header.first_line_end.Goals as goal

pub returns-then-is_line_end : goal.returns-then-is_line_end
returns-then-is_line_end c =
    let bytes = c.args.bytes.now in
    let i = c.loop-i.i in
    let back : i - 1 + 1 ≡ i = omega arith in
    let here = c.is_line_end.ensures.0 c.if-is_line_end.true in
    (omega arith, between_line_ends-at bytes (i - 1) i (omega arith) (omega arith) c.loop-i.invariant here.0 (ap (λ k. get_or bytes k 0) back ∙ here.1))

pub returns : goal.returns
returns c = no_end_at_all c.args.bytes.now c.loop-i.i (omega arith) c.loop-i.invariant
