use Rattle.std.proofs.Common.{◌≡◌, ◌+◌, ◌<◌, [], length, vec_len, get_or, true, false, ap, ◌∙◌, arith}
use Rattle.std.proofs.Math.ListN.{set}
use Rattle.std.proofs.lemmas.Grind.{common_steps}
use Rattle.std.proofs.lemmas.List.{get_or_default}
use Rattle.import_graph.proofs.Tours.{to_come-set}
use Rattle.import_graph.proofs.tour.Tour.enter.Goals as goal

pub returns-in_ok-enter_later-clause-lighter : goal.returns-in_ok-enter_later-clause-lighter
returns-in_ok-enter_later-clause-lighter c =
    let first : get_or c.args.self.now.entered.items c.args.file true ≡ false = grind (arith, common_steps) in
    let entered : c.enter_later.new.self.entered.items ≡ set c.args.self.now.entered.items c.args.file true = grind (arith, common_steps) in
    let there : c.args.file < length c.args.self.now.entered.items = omega arith in
    let in_next : c.args.file < length c.args.next.now = omega arith in
    let row : c.as_slice.result.now ≡ get_or c.args.next.now c.args.file [] = c.as_slice.ensures ∙ (c.index-next-file.is ∙ get_or_default c.args.next.now c.args.file _ [] in_next) in
    let less = to_come-set c.args.self.now.entered.items c.args.next.now c.args.file there (omega arith) first in
    let steps : vec_len c.enter_later.new.self.steps ≡ vec_len c.args.self.now.steps + 1 + length c.as_slice.result.now = grind (arith, common_steps) in
    rw entered (omega (arith, less, steps, ap length row))
