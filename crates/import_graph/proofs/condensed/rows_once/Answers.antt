use Rattle.std.proofs.Common.{◌≡◌, [], length, get_or, ◌∙◌, arith}
use Rattle.std.proofs.lemmas.List.{get_or_default}
use Rattle.import_graph.proofs.Representatives.{same-push, same_all}
use Rattle.import_graph.proofs.condensed.rows_once.Goals as goal

pub loop-row-preserved : goal.loop-row-preserved
loop-row-preserved c =
    let long : length c.loop-row.found.items ≡ c.loop-row.row-index = omega (arith, c.loop-row.invariant.length_is, c.loop-row.found.ok) in
    let row : c.as_slice.result.now ≡ get_or c.args.rows.now (length c.loop-row.found.items) [] =
    rw long (c.as_slice.ensures ∙ (c.row-item.is ∙ get_or_default c.args.rows.now c.loop-row.row-index _ [] c.loop-row-test.true)) in
    record {
      length_is = omega (arith, c.loop-row.invariant.length_is, c.in_ok-push.ensures.len);
      same = λ a b lt. rw c.in_ok-push.ensures.items
          (same-push c.loop-row.found.items c.args.rows.now c.in_ok-each_once.field-0 (λ x y below. c.loop-row.invariant.same x y (omega (arith, below, c.loop-row.found.ok))) (rw row at c.in_ok-each_once.ensures) a b
          (omega (arith, lt, c.in_ok-push.ensures.len, c.loop-row.found.ok)));
    }

pub returns-clause-same : goal.returns-clause-same
returns-clause-same c =
    same_all c.loop-row.found.items c.args.rows.now (omega (arith, c.loop-row.invariant.length_is, c.loop-row.found.ok, c.loop-row-test.false))
    (λ x y below. c.loop-row.invariant.same x y (omega (arith, below, c.loop-row.found.ok)))
