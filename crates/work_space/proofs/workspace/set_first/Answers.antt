use Rattle.std.proofs.Common.{◌≡◌, Err, arith, sym, ap, ◌∙◌}
use Rattle.piece_collector.specs.declared.fault.BoardFault.TheVariants.{Exhausted}
use Rattle.work_files.specs.View.{file_view}
use Rattle.work_space.proofs.FirstEvents.{one_text, refused_with}
use Rattle.work_space.proofs.workspace.set_first.Goals as goal

pub returns-in_err-set_shared_text-clause-exhausted : goal.returns-in_err-set_shared_text-clause-exhausted
returns-in_err-set_shared_text-clause-exhausted c = λ none.
    let is = refused_with c.in_err-set_shared_text.field-0.0 Exhausted c.from_residual-in_err-set_shared_text.result c.from_residual-in_err-set_shared_text.ensures.1 none in
    let last : c.args.board.now.last ≡ 18446744073709551615 = c.in_err-set_shared_text.ensures.exhausted.0 (ap Err is) in
    let one = one_text c.args.path.now (file_view c.args.file.now) c.in-Some.text (sym c.in-Some.is ∙ c.in_ok-text.ensures) in
    omega (arith, last, one)
