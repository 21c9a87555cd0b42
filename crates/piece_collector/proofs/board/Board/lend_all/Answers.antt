use Rattle.std.proofs.Common.{rules, refl, sym, subst, map, List, string_bytes, true, false}
use Rattle.std.specs.BTreeMap.{get_by_text}
use Rattle.piece_collector.specs.Views.{TextAt}
use Rattle.piece_collector.specs.Lending.{TakesAll}
use Rattle.piece_collector.specs.Board.{IsTextsIn}
use Rattle.piece_collector.proofs.Lends.{lent_texts, lent_same, texts_of, texts_lent, stands_lent}
use Rattle.piece_collector.proofs.Same.{seen_as, ordered_as}
use Rattle.piece_collector.proofs.board.Board.lend_all.Goals as goal

pub invariant_of-self : goal.invariant_of-self
invariant_of-self g c = record {
  indexed = λ here. absurd (cc);
  passed = λ here. absurd (cc);
  current = λ here. absurd (cc);
  ordered = ordered_as c.self.inside.slots c.take_all.new.slots c.take_all.ensures.keys c.self.invariant.ordered;
}

pub returns-clause-lent : goal.returns-clause-lent
returns-clause-lent g c =
    seen_as c.self.inside.slots c.take_all.new.slots c.self.inside.last c.self.inside.is_lent false true _ c.self.view_is c.requires.here c.take_all.ensures.keys c.self.invariant.ordered
    (lent_same c.self.inside.slots c.take_all.new.slots c.self.inside.last c.self.inside.is_lent _ c.self.view_is c.requires.here c.take_all.ensures.rest c.requires.full c.self.invariant.current)

pub of-requires : goal.of-requires
of-requires g c =
    let Q : List TextAt → Type 0 = λ old. TakesAll (get_by_text c.self.inside.slots) (map (λ e. string_bytes e.0) c.self.inside.slots.entries) old c.take_all.new.pieces.items in
    let texts = lent_texts c.self.inside.slots (map (λ e. string_bytes e.0) c.self.inside.slots.entries) c.take_all.new.pieces.items c.self.inside.last c.self.inside.is_lent _ c.self.view_is c.requires.here c.self.invariant.ordered refl
    (subst Q c.in_ok-pieces.ensures.items c.take_all.ensures.taken) c.requires.full c.self.invariant.current in
    (search rules, texts.ascends)

pub returns-clause-back : goal.returns-clause-back
returns-clause-back g c =
    let P : List TextAt → Type 0 = λ w. IsTextsIn c.args.self.now w in
    let Q : List TextAt → Type 0 = λ old. TakesAll (get_by_text c.self.inside.slots) (map (λ e. string_bytes e.0) c.self.inside.slots.entries) old c.take_all.new.pieces.items in
    texts_lent _ _ true _ (returns-clause-lent g c)
    (subst P (sym c.of.ensures)
    (lent_texts c.self.inside.slots (map (λ e. string_bytes e.0) c.self.inside.slots.entries) c.take_all.new.pieces.items c.self.inside.last c.self.inside.is_lent _ c.self.view_is c.requires.here c.self.invariant.ordered refl
    (subst Q c.in_ok-pieces.ensures.items c.take_all.ensures.taken) c.requires.full c.self.invariant.current))

pub returns-clause-is_after : goal.returns-clause-is_after
returns-clause-is_after g c = λ o es s. stands_lent _ _ true o es (returns-clause-lent g c) s

pub returns-clause-texts : goal.returns-clause-texts
returns-clause-texts g c = λ o es s. texts_of _ o es _ (returns-clause-is_after g c o es s) (returns-clause-back g c)
