use Rattle.std.proofs.Common.{refl, false, sym, ◌∙◌, rules, ◌≡◌}
use Rattle.piece_collector.specs.declared.verdict.Verdict.TheVariants.{Taken}
use Rattle.piece_collector.proofs.IsAfter.{stands_failed, stands_unmoved, fail_verdict}
use Rattle.piece_collector.proofs.Texts.{texts_same}
use Rattle.piece_collector.proofs.Current.{current_out}
use Rattle.piece_collector.proofs.Index.{index_out}
use Rattle.piece_collector.proofs.Passed.{passed_none}
use Rattle.piece_collector.proofs.board.Board.fail.Goals as goal

pub returns-then-ne-clause-is_after : goal.returns-then-ne-clause-is_after
returns-then-ne-clause-is_after g c = λ o es s.
    stands_unmoved c.self.inside.slots c.self.inside.last c.self.inside.is_lent _ o es c.args.path.now c.args.stamp c.self.view_is c.requires (λ e. let t : c.judge-verdict.result ≡ Taken = c.judge-verdict.ensures ∙ e in search rules) s

pub returns-then-ne-clause-verdict : goal.returns-then-ne-clause-verdict
returns-then-ne-clause-verdict g c = λ o es s.
    fail_verdict c.self.inside.slots c.self.inside.last c.self.inside.is_lent _ o es c.args.path.now c.args.stamp _ c.self.view_is c.requires c.judge-verdict.ensures s

pub invariant_of-self : goal.invariant_of-self
invariant_of-self g c = record {
  indexed = index_out c.self.inside.slots c.set_out.new.slots c.self.inside.unheld c.self.inside.is_lent c.args.path.now false c.self.invariant.indexed c.set_out.ensures.each;
  passed = passed_none c.set_out.new.slots c.clear.new.self c.self.inside.is_lent c.clear.ensures.bytes;
  current = current_out c.self.inside.slots c.set_out.new.slots c.self.inside.is_lent c.args.path.now false c.self.invariant.current c.set_out.ensures.each;
  ordered = c.set_out.ensures.ordered;
}

pub returns-clause-is_after : goal.returns-clause-is_after
returns-clause-is_after g c = λ o es s.
    stands_failed c.self.inside.slots c.set_out.new.slots c.self.inside.last c.self.inside.is_lent _ o es c.args.path.now c.args.stamp c.self.view_is c.requires (let t : c.judge-verdict.result ≡ Taken = search rules in sym t ∙ c.judge-verdict.ensures) c.set_out.ensures.each s

pub returns-clause-verdict : goal.returns-clause-verdict
returns-clause-verdict g c = λ o es s.
    fail_verdict c.self.inside.slots c.self.inside.last c.self.inside.is_lent _ o es c.args.path.now c.args.stamp _ c.self.view_is c.requires c.judge-verdict.ensures s

pub returns-clause-texts : goal.returns-clause-texts
returns-clause-texts g c = texts_same c.self.inside.slots c.set_out.new.slots c.self.inside.last c.self.inside.is_lent _ _ _ c.self.view_is c.requires (λ s. refl) c.set_out.ensures.each
