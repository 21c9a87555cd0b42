use Rattle.std.proofs.Common.{◌≡◌, ◌↔◌, ℕ, [], get_or, length, ◌∙◌, arith}
use Rattle.std.specs.Prelude.{All}
use Rattle.std.proofs.lemmas.List.{get_or_default}
use Rattle.std.proofs.lemmas.Result.{IfOk-weaker}
use Rattle.import_graph.specs.Condensed.{LeadAlike}
use Rattle.import_graph.specs.Walks.{AllWithin, Lists}
use Rattle.import_graph.proofs.Representatives.{Condenses-push, LeadAlike-from, LeadAlike-same, within_same}
use Rattle.import_graph.proofs.condensed.condensed_steps.Goals as goal

pub loop-file-preserved : goal.loop-file-preserved
loop-file-preserved c =
    let long = c.loop-file.invariant.length_is in
    let row : c.as_slice-in-loop-file.result.now ≡ get_or c.args.next.now c.loop-file.file [] =
    c.as_slice-in-loop-file.ensures ∙ (c.index-next-file.is ∙ get_or_default c.args.next.now c.loop-file.file _ [] c.loop-file-test.true) in
    record {
      length_is = c.in_ok-add_file.ensures.length ∙ long;
      within = rw long at c.in_ok-add_file.ensures.within;
      condenses = Condenses-push _ _ _ _ _ c.loop-file.invariant.condenses (rw (row, c.as_slice.ensures.value) at c.in_ok-add_file.ensures.adds);
    }

pub returns-clause-within : goal.returns-clause-within
returns-clause-within c =
    IfOk-weaker c.rows_once.result
    (λ rows. (a b : ℕ) → Lists rows.items a b ↔ Lists c.as_slice-2.result.now a b)
    (λ rows. All (AllWithin (length c.args.next.now)) rows.items)
    (λ rows same. within_same (length c.args.next.now) rows.items c.as_slice-2.result.now same (rw c.as_slice-2.ensures.value c.loop-file.invariant.within))
    c.rows_once.ensures.same

pub returns-clause-alike : goal.returns-clause-alike
returns-clause-alike c =
    let alike : LeadAlike c.loop-file.rows.items c.args.next.now = LeadAlike-from c.args.next.now c.in_ok-components.components.numbers.items c.in_ok-components.components.tied.items c.in_ok-components.ensures.tied
    c.in_ok-representatives.representatives.items c.in_ok-representatives.ensures.stands c.loop-file.rows.items c.loop-file.file c.requires (omega (arith, c.loop-file-test.false)) c.loop-file.invariant.condenses in
    IfOk-weaker c.rows_once.result
    (λ rows. (a b : ℕ) → Lists rows.items a b ↔ Lists c.as_slice-2.result.now a b)
    (λ rows. LeadAlike rows.items c.args.next.now)
    (λ rows same. LeadAlike-same rows.items c.loop-file.rows.items c.args.next.now (rw c.as_slice-2.ensures.value at same) alike)
    c.rows_once.ensures.same
