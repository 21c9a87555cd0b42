use Rattle.std.proofs.Common.{Some, Err, map, refl, sym, ap, ◌∙◌}
use Rattle.piece_collector.specs.declared.fault.BoardFault.TheVariants as board
use Rattle.work_space.proofs.FirstEvents.{refused_with}
use Rattle.lsp_rpc.specs.Message.{message_view}
use Rattle.lsp_core.specs.View.{core_state, IsExhausted}
use Rattle.lsp_core.proofs.CoreLemmas.{begins}
use Rattle.lsp_core.proofs.StampLemmas.{next_finds_none}
use Rattle.lsp_core.proofs.session_core.Core.begin.Goals as goal

pub returns-clause-after : goal.returns-clause-after
returns-clause-after c = λ opening config h after may.
    begins opening config (core_state c.args.self.now) _ h (message_view c.in-Some.message) (map message_view c.pop_front.new.self.items) after may (ap (map message_view) c.in-Some.ensures.items) refl
    c.in_ok-pending.ensures.state (ap (λ p. Some p) c.in_ok-pending.ensures.pending) (c.in_ok-pending.ensures.board opening)

pub returns-in_err-pending-clause-stamps : goal.returns-in_err-pending-clause-stamps
returns-in_err-pending-clause-stamps c = λ none opening config h after.
    let is = refused_with c.in_err-pending.field-0.0 board.Exhausted c.from_residual.result c.from_residual.ensures.1 none in
    let same = c.in_err-pending.ensures.err in
    let last : IsExhausted (core_state c.args.self.now).board = ap (λ b. b.last) (sym same) ∙ c.in_err-pending.ensures.exhausted (ap Err is) in
    next_finds_none opening config (core_state c.args.self.now) h (message_view c.in-Some.message) (map message_view c.pop_front.new.self.items) after c.requires.0 c.requires.1 (ap (map message_view) c.in-Some.ensures.items) last
    (c.in_err-pending.ensures.needed (ap Err is))
