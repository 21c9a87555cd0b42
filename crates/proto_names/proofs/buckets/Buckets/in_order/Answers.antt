use Rattle.std.proofs.Common.{◌≡◌, ◌∙◌, map, sym, rules}
use Rattle.std.proofs.lemmas.Iterator.Consumers.{YieldsList-end}
use Rattle.std.proofs.lemmas.Iterator.Adapters.{YieldsList-from_vec}
use Rattle.std.proofs.lemmas.List.{map-id, map_push}
use Rattle.proto_names.proofs.Dealing.{one_in_order}
use Rattle.proto_names.proofs.buckets.Buckets.in_order.Goals as goal

pub loop-entries-preserved : goal.loop-entries-preserved
loop-entries-preserved g c =
    rw (map_push, c.in_ok-push.ensures.items)
    (one_in_order (g.O.EntryOrder.order c.args.files.now) (map (λ list. list.items) c.loop-entries.yielded) c.loop-entries.list.items c.in-Some.entries.items c.in_ok-put_in_order.field-0
    c.loop-entries.invariant c.in_ok-put_in_order.ensures)

pub returns : goal.returns
returns g c =
    let whole : c.loop-entries.yielded ≡ c.args.lists.items =
    sym (map-id _)
    ∙ (YieldsList-end (YieldsList-from_vec c.args.lists.items c.into_iter-entries-iterator.ensures.into_iter_gives.0 (search rules)) c.loop-entries.yielded _ c.loop-entries.yielded_by _ c.next.new.self c.in-None.is c.next.ensures.steps).0 in
    rw whole at c.loop-entries.invariant
