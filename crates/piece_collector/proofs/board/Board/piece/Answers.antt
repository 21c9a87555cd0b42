use Rattle.std.proofs.Common.{ap, sym, ◌∙◌, subst, Option, IfSome, ◌≡◌}
use Rattle.std.specs.BTreeMap.{get_by_text}
use Rattle.piece_collector.specs.Views.{SlotView, text_in}
use Rattle.piece_collector.specs.Lending.{piece_in}
use Rattle.piece_collector.proofs.Current.{piece_shown}
use Rattle.piece_collector.proofs.Index.{opened}
use Rattle.piece_collector.proofs.board.Board.piece.Goals as goal

pub returns-clause-piece : goal.returns-clause-piece
returns-clause-piece g c =
    c.piece_of.ensures ∙ ap piece_in (sym ((opened c.self.inside.last c.self.inside.slots c.self.inside.is_lent _ c.self.view_is c.requires).1 c.args.path.now))

pub returns-clause-current : goal.returns-clause-current
returns-clause-current g c =
    let open_board = opened c.self.inside.last c.self.inside.slots c.self.inside.is_lent _ c.self.view_is c.requires in
    let P : Option SlotView → Type 0 = λ w. IfSome c.piece_of.result (λ p. IfSome w (λ s. p.now ≡ text_in c.args.path.now s)) in
    subst P (sym (open_board.1 c.args.path.now))
    (piece_shown (λ p. p.now) c.piece_of.result c.args.path.now (get_by_text c.self.inside.slots c.args.path.now) c.piece_of.ensures (c.self.invariant.current open_board.0 c.args.path.now))
