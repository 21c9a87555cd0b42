use Rattle.std.proofs.Common.{rules, subst, ◌∷◌, refl, ℕ, List, ◌≡◌, ap, sym, ◌∙◌, Some, None, option_map, true}
use Rattle.std.specs.BTreeMap.{get_by_text}
use Rattle.piece_collector.specs.Views.{done_at, BoardView}
use Rattle.piece_collector.specs.History.{stands_at}
use Rattle.piece_collector.specs.Events.{NextJob}
use Rattle.piece_collector.specs.Board.{IsAfter}
use Rattle.piece_collector.proofs.Search.{first_of_index, text_seen}
use Rattle.piece_collector.proofs.Next.{stands_none, stands_given}
use Rattle.piece_collector.proofs.Index.{opened, index_out}
use Rattle.piece_collector.proofs.Current.{current_out}
use Rattle.piece_collector.proofs.Passed.{passed_any, passed_given}
use Rattle.piece_collector.proofs.Texts.{texts_same}
use Rattle.piece_collector.proofs.board.Board.next_job.Goals as goal

pub returns-in_default-clause-first : goal.returns-in_default-clause-first
returns-in_default-clause-first g c = λ o es s.
    first_of_index c.self.inside.slots c.self.inside.unheld c.self.inside.last c.self.inside.is_lent _ o es None c.self.view_is c.requires c.self.invariant.indexed c.first_job.ensures.ordered (rw c.in_default.is at c.in_ok-job.ensures.first) s

pub returns-in_default-clause-is_after : goal.returns-in_default-clause-is_after
returns-in_default-clause-is_after g c = λ o es s.
    let P : BoardView → Type 0 = λ v. IsAfter o v (NextJob ∷ es) in
    let same : c.match-last.self ≡ c.args.self.now = search rules in
    subst P (sym same) (stands_none _ o es (first_of_index c.self.inside.slots c.self.inside.unheld c.self.inside.last c.self.inside.is_lent _ o es None c.self.view_is c.requires c.self.invariant.indexed c.first_job.ensures.ordered (rw c.in_default.is at c.in_ok-job.ensures.first) s) s)

pub invariant_of-self : goal.invariant_of-self
invariant_of-self g c = record {
  indexed = c.self.invariant.indexed;
  passed = passed_any c.self.inside.slots c.self.inside.unheld c.in_ok-self-inside.field-0 c.self.inside.is_lent c.self.invariant.indexed (rw c.in_default.is at c.in_ok-job.ensures.first);
  current = c.self.invariant.current;
  ordered = c.self.invariant.ordered;
}

pub invariant_of-self-2 : goal.invariant_of-self-2
invariant_of-self-2 g c =
    let out : (q : List ℕ) → get_by_text c.set_out.new.slots q ≡ done_at c.in-Some.job.path (λ s. record s { is_out = true }) q (get_by_text c.self.inside.slots q) =
    λ q. c.set_out.ensures.each q ∙ ap (λ w. done_at w (λ s. record s { is_out = true }) q (get_by_text c.self.inside.slots q)) c.path-2.ensures in
    record {
      indexed = index_out c.self.inside.slots c.set_out.new.slots c.self.inside.unheld c.self.inside.is_lent c.in-Some.job.path true c.self.invariant.indexed out;
      passed = passed_given c.self.inside.slots c.set_out.new.slots c.self.inside.unheld c.in_ok-self-inside-2.field-0 c.self.inside.is_lent c.in-Some.job.path (c.in_ok-self-inside-2.ensures.ok ∙ c.path.ensures) c.self.invariant.indexed c.first_job.ensures.ordered
          (rw c.in-Some.is at c.in_ok-job.ensures.first) out;
      current = current_out c.self.inside.slots c.set_out.new.slots c.self.inside.is_lent c.in-Some.job.path true c.self.invariant.current out;
      ordered = c.set_out.ensures.ordered;
    }

pub returns-clause-first : goal.returns-clause-first
returns-clause-first g c = λ o es s.
    first_of_index c.self.inside.slots c.self.inside.unheld c.self.inside.last c.self.inside.is_lent _ o es (Some c.in-Some.job.path) c.self.view_is c.requires c.self.invariant.indexed c.first_job.ensures.ordered (rw c.in-Some.is at c.in_ok-job.ensures.first) s

pub returns-clause-is_after : goal.returns-clause-is_after
returns-clause-is_after g c = λ o es s.
    stands_given c.self.inside.slots c.set_out.new.slots c.self.inside.last c.self.inside.is_lent _ o es c.in-Some.job.path c.self.view_is c.requires
    (first_of_index c.self.inside.slots c.self.inside.unheld c.self.inside.last c.self.inside.is_lent _ o es (Some c.in-Some.job.path) c.self.view_is c.requires c.self.invariant.indexed c.first_job.ensures.ordered (rw c.in-Some.is at c.in_ok-job.ensures.first) s)
    (λ q. c.set_out.ensures.each q ∙ ap (λ w. done_at w (λ s. record s { is_out = true }) q (get_by_text c.self.inside.slots q)) c.path-2.ensures) s

pub returns-clause-text : goal.returns-clause-text
returns-clause-text g c = λ o es s.
    let k = opened c.self.inside.last c.self.inside.slots c.self.inside.is_lent _ c.self.view_is c.requires in
    let t : option_map (λ x. record { path = c.in-Some.job.path; stamp = x.stamp; text = x.text }) (get_by_text c.self.inside.slots c.in-Some.job.path) ≡ Some c.in-Some.job = rw c.in-Some.is at c.in_ok-job.ensures.text in
    sym (text_seen c.in-Some.job.path (stands_at o es c.in-Some.job.path)) ∙ (ap (option_map (λ x. record { path = c.in-Some.job.path; stamp = x.stamp; text = x.text })) (sym (s.each c.in-Some.job.path) ∙ k.1 c.in-Some.job.path) ∙ t)

pub returns-clause-texts : goal.returns-clause-texts
returns-clause-texts g c = texts_same c.self.inside.slots c.set_out.new.slots c.self.inside.last c.self.inside.is_lent _ _ _ c.self.view_is c.requires (λ s. refl) c.set_out.ensures.each
