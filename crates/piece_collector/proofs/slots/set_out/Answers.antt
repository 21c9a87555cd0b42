use Rattle.std.proofs.Common.{rules, refl}
use Rattle.std.proofs.lemmas.Map.Text.{btree_map_updates_text}
use Rattle.piece_collector.proofs.Writes.{done_by}
use Rattle.piece_collector.proofs.slots.set_out.Goals as goal

pub returns-in-Some-clause-each : goal.returns-in-Some-clause-each
returns-in-Some-clause-each g c =
    let w = c.set_out.new.self in
    done_by c.args.slots.now (c.get_mut.follows.lender w) _ c.args.path.now (λ s. record s { is_out = c.args.is_out }) c.in-Some.slot.now w refl c.in-Some.ensures.value c.set_out.ensures
    (btree_map_updates_text c.args.path.now c.args.slots.now (c.get_mut.follows.lender w) _ ((c.get_mut.follows.holds w).3 (search rules)))
