use Rattle.std.proofs.Common.{sym, ◌+◌, string_bytes, ap, ◌∙◌, ◌≡◌, rules, cond, true, bytes_eq, Some}
use Rattle.std.specs.BTreeSet.{contains_text}
use Rattle.std.specs.BTreeMap.{get_by_text}
use Rattle.std.specs.Map.{update}
use Rattle.std.proofs.lemmas.Map.Text.{btree_map_updates_text, btree_set_updates_text}
use Rattle.piece_collector.proofs.Current.{current_same, current_put}
use Rattle.piece_collector.proofs.Index.{index_grown, index_set}
use Rattle.piece_collector.proofs.IsAfter.{stands_set}
use Rattle.piece_collector.proofs.Texts.{texts_put}
use Rattle.piece_collector.specs.History.{is_before}
use Rattle.piece_collector.proofs.Passed.{passed_same, passed_set}
use Rattle.piece_collector.proofs.board.Board.set_shared_text.Goals as goal

pub invariant_of-self-in_err-insert-2 : goal.invariant_of-self-in_err-insert-2
invariant_of-self-in_err-insert-2 g c = record {
  indexed = index_grown c.self.inside.slots c.insert-2.new.self c.self.inside.unheld c.insert.new.self c.self.inside.is_lent (string_bytes c.in_ok-clone.field-0) c.self.invariant.indexed
      (btree_set_updates_text _ c.self.inside.unheld c.insert.new.self _ c.in_ok-insert.ensures.updates) c.in_err-insert-2.ensures.err;
  passed = passed_same c.self.inside.slots c.insert-2.new.self c.self.inside.from c.look_back.new.from c.self.inside.is_lent c.self.invariant.passed c.look_back.ensures.earlier c.in_err-insert-2.ensures.err;
  current = current_same c.self.inside.slots c.insert-2.new.self c.self.inside.is_lent c.self.invariant.current c.in_err-insert-2.ensures.err;
  ordered = c.insert-2.ensures.ordered;
}

pub invariant_of-self-2 : goal.invariant_of-self-2
invariant_of-self-2 g c =
    let same : string_bytes c.in_ok-clone.field-0 ≡ string_bytes c.args.path = search rules in
    record {
      indexed = index_set c.self.inside.slots c.insert-2.new.self c.self.inside.unheld c.insert.new.self c.self.inside.is_lent (string_bytes c.args.path) _ c.self.invariant.indexed
          (λ q. btree_set_updates_text _ c.self.inside.unheld c.insert.new.self _ c.in_ok-insert.ensures.updates q ∙ ap (λ w. cond (bytes_eq w q) true (contains_text c.self.inside.unheld q)) same)
          (btree_map_updates_text (string_bytes c.args.path) c.self.inside.slots c.insert-2.new.self _ c.in_ok-insert-2.ensures.updates);
      passed = passed_set c.self.inside.slots c.insert-2.new.self c.self.inside.from c.look_back.new.from c.self.inside.is_lent (string_bytes c.args.path) _ c.self.invariant.passed c.look_back.ensures.earlier (ap (λ w. is_before w (string_bytes c.look_back.new.from)) (sym c.as_str.ensures.value) ∙ c.look_back.ensures.path)
          (btree_map_updates_text (string_bytes c.args.path) c.self.inside.slots c.insert-2.new.self _ c.in_ok-insert-2.ensures.updates);
      current = current_put c.self.inside.slots c.insert-2.new.self c.self.inside.is_lent (string_bytes c.args.path) _ c.self.invariant.current tt
          (λ q. btree_map_updates_text (string_bytes c.args.path) c.self.inside.slots c.insert-2.new.self _ c.in_ok-insert-2.ensures.updates q ∙ ap (λ x. update bytes_eq (get_by_text c.self.inside.slots) (string_bytes c.args.path) (Some x) q) c.new.ensures);
      ordered = c.insert-2.ensures.ordered;
    }

pub returns-clause-is_after : goal.returns-clause-is_after
returns-clause-is_after g c = λ o es s.
    stands_set c.self.inside.slots c.insert-2.new.self c.self.inside.last c.self.inside.is_lent _ o es (string_bytes c.args.path) c.args.text c.self.view_is c.requires
    (λ q. btree_map_updates_text (string_bytes c.args.path) c.self.inside.slots c.insert-2.new.self _ c.in_ok-insert-2.ensures.updates q ∙ ap (λ x. update bytes_eq (get_by_text c.self.inside.slots) (string_bytes c.args.path) (Some x) q) c.new.ensures)
    s

pub returns-clause-texts : goal.returns-clause-texts
returns-clause-texts g c =
    texts_put c.self.inside.slots c.insert-2.new.self c.self.inside.last (c.self.inside.last + 1) c.self.inside.is_lent _ (string_bytes c.args.path) _ c.self.view_is c.requires
    (λ q. btree_map_updates_text (string_bytes c.args.path) c.self.inside.slots c.insert-2.new.self _ c.in_ok-insert-2.ensures.updates q ∙ ap (λ x. update bytes_eq (get_by_text c.self.inside.slots) (string_bytes c.args.path) (Some x) q) c.new.ensures)
