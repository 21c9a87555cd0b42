use Rattle.std.proofs.Common.{◌≡◌, Err, true, sym, ap, subst, ◌∙◌, string_bytes, option_map}
use Rattle.piece_collector.specs.declared.fault.BoardFault.TheVariants as board
use Rattle.serde_json.specs.View.{view}
use Rattle.lsp_rpc.specs.Params.{changed_view}
use Rattle.work_files.specs.Texts.{is_open}
use Rattle.work_space.proofs.FirstEvents.{refused_with}
use Rattle.lsp_core.specs.Session.{path_of}
use Rattle.lsp_core.specs.View.{state_of}
use Rattle.lsp_core.proofs.StampLemmas.{change_sets}
use Rattle.lsp_core.proofs.session.Session.change.Goals as goal

pub returns-in_err-change-clause-needed : goal.returns-in_err-change-clause-needed
returns-in_err-change-clause-needed c = λ none.
    let s = state_of c.args.self.now c.args.workspace.now in
    let is = refused_with c.in_err-change.field-0.0 board.Exhausted c.from_residual-in_err-change.result c.from_residual-in_err-change.ensures.1 none in
    let there : is_open (string_bytes c.in-Some-2.path) s.files ≡ true = subst (λ p. is_open p s.files ≡ true) c.as_str-3.ensures.value (c.in_err-change.ensures.needed (ap Err is)) in
    change_sets s (view c.args.params) (changed_view c.in-Some.changed) (string_bytes c.in-Some-2.path) (ap (option_map changed_view) (sym c.in-Some.is) ∙ c.in_ok-changed.ensures)
    (ap (option_map string_bytes) (sym c.in-Some-2.is) ∙ c.in_ok-path.ensures ∙ ap (path_of s) c.as_str.ensures.value) there
