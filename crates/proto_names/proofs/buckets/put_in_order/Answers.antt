use Rattle.std.proofs.lemmas.Result.{IfOk-weaker}
use Rattle.proto_names.specs.Tables.{AreInOrder}
use Rattle.proto_names.proofs.Dealing.{placed}
use Rattle.proto_names.proofs.buckets.put_in_order.Goals as goal

pub returns : goal.returns
returns g c =
    IfOk-weaker c.apart.result _ (AreInOrder (g.O.EntryOrder.order c.args.files.now) c.args.entries.items)
    (λ found are. placed (g.O.EntryOrder.order c.args.files.now) c.args.entries.items c.as_slice.result.now found
    (rw c.as_slice.ensures.value c.in_ok-sort_entries.ensures.same) (rw c.as_slice.ensures.value c.in_ok-sort_entries.ensures.sorted) are.0 are.1)
    c.apart.ensures
