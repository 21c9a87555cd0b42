use Rattle.std.proofs.Common.{refl, ap, sym, ◌∙◌, rules, ◌≡◌, cond, false, bytes_eq}
use Rattle.std.specs.BTreeSet.{contains_text}
use Rattle.piece_collector.specs.declared.verdict.Verdict.TheVariants.{Taken}
use Rattle.std.proofs.lemmas.Map.Text.{btree_set_updates_text}
use Rattle.piece_collector.proofs.Current.{current_kept}
use Rattle.piece_collector.proofs.Index.{index_kept}
use Rattle.piece_collector.proofs.IsAfter.{stands_kept, stands_refused, offer_verdict}
use Rattle.piece_collector.proofs.Texts.{texts_same}
use Rattle.piece_collector.proofs.Passed.{passed_by, unwanted_done}
use Rattle.piece_collector.proofs.board.Board.offer.Goals as goal

pub returns-then-ne-clause-is_after : goal.returns-then-ne-clause-is_after
returns-then-ne-clause-is_after g c = λ o es s.
    stands_refused c.self.inside.slots c.self.inside.last c.self.inside.is_lent _ o es c.args.piece c.self.view_is c.requires (λ e. let t : c.judge_piece-verdict.result ≡ Taken = c.judge_piece-verdict.ensures ∙ e in search rules) s

pub returns-then-ne-clause-verdict : goal.returns-then-ne-clause-verdict
returns-then-ne-clause-verdict g c = λ o es s.
    offer_verdict c.self.inside.slots c.self.inside.last c.self.inside.is_lent _ o es c.args.piece.path c.args.piece.stamp c.args.piece.text _ c.self.view_is c.requires c.judge_piece-verdict.ensures s

pub invariant_of-self : goal.invariant_of-self
invariant_of-self g c = record {
  indexed = index_kept c.self.inside.slots c.keep.new.slots c.self.inside.unheld c.remove.new.self c.self.inside.is_lent c.args.piece.path c.args.piece c.self.invariant.indexed
      (λ q. btree_set_updates_text c.path.result.now c.self.inside.unheld c.remove.new.self _ c.remove.ensures.updates q ∙ ap (λ w. cond (bytes_eq w q) false (contains_text c.self.inside.unheld q)) c.path.ensures)
      c.keep.ensures.each;
  passed = passed_by c.self.inside.slots c.keep.new.slots c.self.inside.from c.self.inside.is_lent c.self.invariant.passed
      (unwanted_done c.self.inside.slots c.keep.new.slots c.args.piece.path _ (λ s. refl) c.keep.ensures.each);
  current = current_kept c.self.inside.slots c.keep.new.slots c.self.inside.is_lent c.args.piece c.self.invariant.current
      (let t : c.judge_piece-verdict.result ≡ Taken = search rules in sym t ∙ c.judge_piece-verdict.ensures) c.keep.ensures.each;
  ordered = c.keep.ensures.ordered;
}

pub returns-clause-is_after : goal.returns-clause-is_after
returns-clause-is_after g c = λ o es s.
    stands_kept c.self.inside.slots c.keep.new.slots c.self.inside.last c.self.inside.is_lent _ o es c.args.piece c.self.view_is c.requires (let t : c.judge_piece-verdict.result ≡ Taken = search rules in sym t ∙ c.judge_piece-verdict.ensures) c.keep.ensures.each s

pub returns-clause-verdict : goal.returns-clause-verdict
returns-clause-verdict g c = λ o es s.
    offer_verdict c.self.inside.slots c.self.inside.last c.self.inside.is_lent _ o es c.args.piece.path c.args.piece.stamp c.args.piece.text _ c.self.view_is c.requires c.judge_piece-verdict.ensures s

pub returns-clause-texts : goal.returns-clause-texts
returns-clause-texts g c = texts_same c.self.inside.slots c.keep.new.slots c.self.inside.last c.self.inside.is_lent _ _ _ c.self.view_is c.requires (λ s. refl) c.keep.ensures.each
