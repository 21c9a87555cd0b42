use Rattle.std.proofs.Common.{ap, sym, ◌∙◌, is_some, None}
use Rattle.std.proofs.lemmas.Map.Text.{btree_map_updates_text, btree_set_updates_text}
use Rattle.piece_collector.proofs.Current.{current_put}
use Rattle.piece_collector.proofs.Index.{opened, index_removed}
use Rattle.piece_collector.proofs.IsAfter.{stands_removed}
use Rattle.piece_collector.proofs.Texts.{texts_put}
use Rattle.piece_collector.proofs.Passed.{passed_by, unwanted_removed}
use Rattle.piece_collector.proofs.board.Board.remove.Goals as goal

pub invariant_of-self : goal.invariant_of-self
invariant_of-self g c =
    let gone = btree_map_updates_text _ c.self.inside.slots c.remove-2.new.self _ c.remove-2.ensures.updates in
    record {
      indexed = index_removed c.self.inside.slots c.remove-2.new.self c.self.inside.unheld c.remove.new.self c.self.inside.is_lent c.args.path.now c.self.invariant.indexed
          (btree_set_updates_text _ c.self.inside.unheld c.remove.new.self _ c.remove.ensures.updates) gone;
      passed = passed_by c.self.inside.slots c.remove-2.new.self c.self.inside.from c.self.inside.is_lent c.self.invariant.passed (unwanted_removed c.self.inside.slots c.remove-2.new.self c.args.path.now gone);
      current = current_put c.self.inside.slots c.remove-2.new.self c.self.inside.is_lent c.args.path.now None c.self.invariant.current tt gone;
      ordered = c.remove-2.ensures.ordered;
    }

pub returns-clause-is_after : goal.returns-clause-is_after
returns-clause-is_after g c = λ o es s.
    stands_removed c.self.inside.slots c.remove-2.new.self c.self.inside.last c.self.inside.is_lent _ o es c.args.path.now c.self.view_is c.requires
    (btree_map_updates_text _ c.self.inside.slots c.remove-2.new.self _ c.remove-2.ensures.updates) s

pub returns-clause-known : goal.returns-clause-known
returns-clause-known g c =
    c.is_some.ensures ∙ ap is_some (c.remove-2.ensures.value ∙ sym ((opened c.self.inside.last c.self.inside.slots c.self.inside.is_lent _ c.self.view_is c.requires).1 c.args.path.now))

pub returns-clause-texts : goal.returns-clause-texts
returns-clause-texts g c =
    texts_put c.self.inside.slots c.remove-2.new.self c.self.inside.last c.self.inside.last c.self.inside.is_lent _ c.args.path.now None c.self.view_is c.requires (btree_map_updates_text _ c.self.inside.slots c.remove-2.new.self _ c.remove-2.ensures.updates)
