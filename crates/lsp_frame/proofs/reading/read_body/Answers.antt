use Rattle.std.proofs.Common.{arith, ◌-◌}
use Rattle.std.proofs.lemmas.Result.{err_from_is_err_and}
use Rattle.lsp_frame.proofs.Fronts.{stopped_in_body}
use Rattle.lsp_frame.proofs.reading.read_body.Goals as goal

pub returns-in_err-read_onto-clause-bytes : goal.returns-in_err-read_onto-clause-bytes
returns-in_err-read_onto-clause-bytes g c =
    let left = g.S.ByteSource.left in
    let at = c.reads in
    let p = err_from_is_err_and c.from_residual.result c.from_residual.ensures.1 in
    let failed = c.in_err-read_onto.ensures in
    rw (p.1, p.2) (stopped_in_body (left c.args.source.now) (left at.source) (left c.read_onto.new.source) at.body.items c.args.length (c.args.length - c.len-in-reads.result) c.in_err-read_onto.field-0.0 at.invariant.consumed failed.kept failed.full failed.fault (omega arith) (omega (arith, c.len-in-reads.ensures, at.body.ok.0)))
