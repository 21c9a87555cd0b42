use Rattle.std.proofs.Common.{◌≡◌, ap, sym, ◌∙◌, true, false}
use Rattle.piece_collector.specs.Lending.{given}
use Rattle.piece_collector.proofs.PutBack.{all_back, held_at, seen_back}
use Rattle.piece_collector.proofs.Lends.{stands_lent}
use Rattle.piece_collector.proofs.Passed.{unwanted_held}
use Rattle.piece_collector.proofs.board.Board.take_back.Goals as goal

pub invariant_of-self : goal.invariant_of-self
invariant_of-self g c =
    let back = c.restore_all.ensures.entries ∙ (ap (given c.self.inside.slots.entries) c.into_pieces.ensures.pieces
    ∙ all_back c.self.inside.slots c.self.inside.last c.self.inside.is_lent _ _ c.self.view_is c.requires.lent c.self.invariant.ordered c.requires.texts) in
    let held = held_at c.self.inside.slots c.restore_all.new.slots back in
    record {
      indexed = λ here p w. absurd (let x : true ≡ false = sym w ∙ (held p).0 in cc);
      passed = λ here q b. unwanted_held _ (held q).0;
      current = λ here p. (held p).1;
      ordered = c.restore_all.ensures.ordered;
    }

pub returns-clause-here : goal.returns-clause-here
returns-clause-here g c =
    let back = c.restore_all.ensures.entries ∙ (ap (given c.self.inside.slots.entries) c.into_pieces.ensures.pieces
    ∙ all_back c.self.inside.slots c.self.inside.last c.self.inside.is_lent _ _ c.self.view_is c.requires.lent c.self.invariant.ordered c.requires.texts) in
    seen_back c.self.inside.slots c.restore_all.new.slots c.self.inside.last c.self.inside.is_lent _ c.self.view_is c.requires.lent back

pub returns-clause-is_after : goal.returns-clause-is_after
returns-clause-is_after g c = λ o es s. stands_lent _ _ false o es (returns-clause-here g c) s
