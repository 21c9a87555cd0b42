use Rattle.std.proofs.Common.{◌-◌, refl, arith}
use Rattle.std.proofs.lemmas.Grind.{common_steps}
use Rattle.import_graph.proofs.PathOrder.{in_order}
use Rattle.import_graph.proofs.paths.are_in_path_order.Goals as goal

pub returns : goal.returns
returns c = (
  λ holds. in_order c.args.files.now (record { rises = λ k other lt. c.loop-next.invariant.rises k other (omega arith) }),
  λ ordered. refl,
)

pub returns-then-ne : goal.returns-then-ne
returns-then-ne c = (
  λ bad. absurd (cc (bad)),
  λ ordered. let e = ordered (c.loop-next.next - 1) c.loop-next.next c.index-files-next.result (omega arith) (omega arith) in grind (arith, common_steps, e),
)
