use Rattle.std.proofs.Common.{◌∙◌, sym}
use Rattle.proto_resolve.proofs.Firsts.{step_past, step_there, nobody_left}
use Rattle.proto_resolve.proofs.diagnostics.has_another.Goals as goal

pub loop-file-preserved : goal.loop-file-preserved
loop-file-preserved c =
    let same = c.as_slice-file-items.ensures in
    c.loop-file.invariant ∙ step_past c.args.view.now.files c.loop-file.file-index 0 c.args.view.now.file c.args.decls.now (rw same at c.loop-file-test.true) (rw same at (sym c.has_other.ensures ∙ c.if-has_other.false))

pub returns : goal.returns
returns c =
    let same = c.as_slice-file-items.ensures in
    sym (c.loop-file.invariant ∙ nobody_left c.args.view.now.files c.loop-file.file-index c.args.view.now.file c.args.decls.now (rw same at c.loop-file-test.false))

pub returns-then-has_other : goal.returns-then-has_other
returns-then-has_other c =
    let same = c.as_slice-file-items.ensures in
    sym (c.loop-file.invariant ∙ step_there c.args.view.now.files c.loop-file.file-index 0 c.args.view.now.file c.args.decls.now (rw same at c.loop-file-test.true) (rw same at (sym c.has_other.ensures ∙ c.if-has_other.true)))
