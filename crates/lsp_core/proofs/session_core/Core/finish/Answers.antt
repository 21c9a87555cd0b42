use Rattle.std.proofs.Common.{sym, ap, ◌∙◌}
use Rattle.std.specs.Prelude.{option_map}
use Rattle.std.proofs.lemmas.Result.{on_ok_weaker}
use Rattle.lsp_core.specs.View.{core_state, pending_view}
use Rattle.lsp_core.proofs.CoreLemmas.{replied-finish}
use Rattle.lsp_core.proofs.session_core.Core.finish.Goals as goal

pub returns-clause-replied : goal.returns-clause-replied
returns-clause-replied c =
    on_ok_weaker c.finish.result
    (λ is opening config h first after may replied.
    replied-finish opening config (core_state c.args.self.now) h (pending_view c.in-Some.pending) first c.args.replies.now.items c.finish.new.replies.items after may (ap (option_map pending_view) (sym c.take.ensures.value ∙ c.in-Some.is)) is replied)
    c.finish.ensures
