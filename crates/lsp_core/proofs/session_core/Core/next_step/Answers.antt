use Rattle.std.proofs.Common.{rules, true≢false, ◌≡◌, length, sym, ap, ◌∙◌}
use Rattle.std.specs.Prelude.{option_map}
use Rattle.std.proofs.lemmas.List.{length-map}
use Rattle.lsp_rpc.specs.Message.{message_view}
use Rattle.lsp_core.specs.Core.{board_events}
use Rattle.lsp_core.specs.View.{core_state, pending_view}
use Rattle.lsp_core.proofs.CoreLemmas.{settled-none, settled-held}
use Rattle.lsp_core.proofs.session_core.Core.next_step.Goals as goal

pub returns-in-Some-clause-settled : goal.returns-in-Some-clause-settled
returns-in-Some-clause-settled c = λ none opening config h after.
    settled-held opening config (core_state c.args.self.now) h (pending_view c.in-Some.pending) after (ap (option_map pending_view) c.in-Some.is) (sym c.waits.ensures ∙ c.if-waits.true)
    (λ complete. true≢false (sym ((c.is_complete.ensures.complete opening (board_events config h) after.board).1 complete) ∙ c.if-not-is_complete.true))

pub returns-in-None-clause-settled : goal.returns-in-None-clause-settled
returns-in-None-clause-settled c = λ none opening config h after.
    let empty : length c.args.self.now.queue.items ≡ 0 = search rules in
    settled-none opening config (core_state c.args.self.now) h after (ap (option_map pending_view) c.in-None.is) (length-map c.args.self.now.queue.items message_view ∙ empty)
