use Rattle.std.proofs.Common.{◌≡◌, Err, true, sym, ap, subst, ◌∙◌, string_bytes, option_map}
use Rattle.std.specs.Prelude.{IsSome}
use Rattle.piece_collector.specs.declared.fault.BoardFault.TheVariants as board
use Rattle.serde_json.specs.View.{view}
use Rattle.work_files.specs.Files.{text_at, closed_files}
use Rattle.work_files.specs.Texts.{is_open}
use Rattle.work_space.proofs.FirstEvents.{refused_with}
use Rattle.lsp_core.specs.View.{state_of}
use Rattle.lsp_core.proofs.StampLemmas.{close_sets}
use Rattle.lsp_core.proofs.session.Session.close.Goals as goal

pub returns-in_err-close-clause-needed : goal.returns-in_err-close-clause-needed
returns-in_err-close-clause-needed c = λ none.
    let s = state_of c.args.self.now c.args.workspace.now in
    let path = string_bytes c.in-Some.path in
    let is = refused_with c.in_err-close.field-0.0 board.Exhausted c.from_residual-in_err-close.result c.from_residual-in_err-close.ensures.1 none in
    let both : (is_open path s.files ≡ true) × IsSome (text_at path (closed_files path s.files)) =
    subst (λ p. (is_open p s.files ≡ true) × IsSome (text_at p (closed_files p s.files))) c.as_str-2.ensures.value (c.in_err-close.ensures.needed (ap Err is)) in
    close_sets s (view c.args.params.now) path (ap (option_map string_bytes) (sym c.in-Some.is) ∙ c.in_ok-path.ensures) both.0 both.1
