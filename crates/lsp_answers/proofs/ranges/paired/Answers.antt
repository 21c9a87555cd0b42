use Rattle.std.proofs.Common.{◌≤◌, ◌*◌, ◌++◌, length, drop, sym, ap, ◌∙◌, arith, append-nil, length-drop}
use Rattle.lsp_answers.proofs.RangesLemmas.{none-left}
use Rattle.lsp_answers.proofs.ranges.paired.Goals as goal

pub returns : goal.returns
returns c =
    let positions = c.args.positions.now in
    let done = 2 * c.loop-i.i in
    let few : length (drop done positions) ≤ 1 = omega (arith, length-drop done positions, c.loop-i-test.false) in
    let found = c.loop-i.ranges.items in
    sym (append-nil found) ∙ ap (λ l. found ++ l) (sym (none-left (drop done positions) few)) ∙ c.loop-i.invariant
