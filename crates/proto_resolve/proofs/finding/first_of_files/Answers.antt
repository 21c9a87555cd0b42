use Rattle.std.proofs.Common.{◌≡◌, ◌∙◌, sym, find, get_or, Some, None}
use Rattle.proto_resolve.proofs.Firsts.{is_own, none_left, step_none, step_some}
use Rattle.proto_resolve.proofs.finding.first_of_files.Goals as goal

pub returns-in-Some : goal.returns-in-Some
returns-in-Some c =
    let same = c.as_slice-file-items.ensures in
    let seen : find (is_own (get_or c.args.view.now.files c.loop-file.file-index 0)) c.args.decls.now ≡ Some c.in-Some.decl = rw same at (sym c.first_of.ensures ∙ c.in-Some.is) in
    sym (c.loop-file.invariant ∙ step_some c.args.view.now.files c.loop-file.file-index 0 c.args.decls.now c.args.view.now.ascending c.requires (rw same at c.loop-file-test.true) c.in-Some.decl seen)

pub loop-file-preserved : goal.loop-file-preserved
loop-file-preserved c =
    let same = c.as_slice-file-items.ensures in
    let none : find (is_own (get_or c.args.view.now.files c.loop-file.file-index 0)) c.args.decls.now ≡ None = rw same at (sym c.first_of.ensures ∙ c.in_default.is) in
    c.loop-file.invariant ∙ step_none c.args.view.now.files c.loop-file.file-index 0 c.args.decls.now (rw same at c.loop-file-test.true) none

pub returns : goal.returns
returns c =
    let same = c.as_slice-file-items.ensures in
    sym (c.loop-file.invariant ∙ none_left c.args.view.now.files c.loop-file.file-index c.args.decls.now (rw same at c.loop-file-test.false))
