use Rattle.std.proofs.Common.{sym, ap, ◌∙◌, string_bytes, option_map}
use Rattle.serde_json.specs.View.{view}
use Rattle.lsp_rpc.specs.Params.{opened_view}
use Rattle.lsp_core.specs.Session.{path_of}
use Rattle.lsp_core.specs.View.{state_of}
use Rattle.lsp_core.proofs.StampLemmas.{open_sets}
use Rattle.lsp_core.proofs.session.Session.open.Goals as goal

pub returns-in_err-open-clause-needed : goal.returns-in_err-open-clause-needed
returns-in_err-open-clause-needed c = λ none.
    let s = state_of c.args.self.now c.args.workspace.now in
    open_sets s (view c.args.params) (opened_view c.in-Some.opened) (string_bytes c.in-Some-2.path) (ap (option_map opened_view) (sym c.in-Some.is) ∙ c.from_value.ensures)
    (ap (option_map string_bytes) (sym c.in-Some-2.is) ∙ c.in_ok-path.ensures ∙ ap (path_of s) c.as_str.ensures.value)
