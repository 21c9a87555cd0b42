use Rattle.piece_collector.proofs.Search.{full_found, complete_full}
use Rattle.piece_collector.proofs.board.Board.is_complete.Goals as goal

pub returns-clause-full : goal.returns-clause-full
returns-clause-full g c = full_found c.self.inside.slots c.self.inside.unheld c.self.inside.last c.self.inside.is_lent _ _ c.self.view_is c.requires c.self.invariant.indexed c.are_held.ensures

pub returns-clause-complete : goal.returns-clause-complete
returns-clause-complete g c = λ o es s.
    let f = full_found c.self.inside.slots c.self.inside.unheld c.self.inside.last c.self.inside.is_lent _ _ c.self.view_is c.requires c.self.invariant.indexed c.are_held.ensures in
    let k = complete_full _ o es s in
    (λ h. k.0 (f.0 h), λ h. f.1 (k.1 h))
