use Rattle.std.proofs.Common.{◌≡◌, ◌∷◌, ◌++◌, ◌+◌, ◌≤◌, rules, arith, ap, ◌∙◌, length, option_to_list, vec_len, vec_capacity}
use Rattle.std.specs.BTreeMap.IterMut.{values_mut_rest}
use Rattle.piece_collector.specs.Lending.{emptied}
use Rattle.piece_collector.proofs.Emptied.{kept_more, taken_more, append_none}
use Rattle.piece_collector.proofs.slots.empty_all.Goals.{in-Some-take_piece, in_default}
use Rattle.piece_collector.proofs.slots.empty_all.Goals as goal

pub loop-slot-preserved : goal.loop-slot-preserved
loop-slot-preserved g c =
    let next : values_mut_rest c.loop-slot.slot-iterator ≡ c.in-Some.slot.now ∷ values_mut_rest c.next.new.self = search rules in
    let count : length (values_mut_rest c.loop-slot.slot-iterator) ≡ length (values_mut_rest c.next.new.self) + 1 = ap length next ∙ search rules in
    let own : c.replace-own.result ≡ c.in-Some.slot.now = c.replace-own.ensures.value in
    let more : c.match-take_piece.pieces.items ≡ c.loop-slot.pieces.items ++ option_to_list c.take_piece.result = elim c.match-take_piece.branch [ in-Some-take_piece w ↦ search rules | in_default w ↦ search (rules, append_none) ] in
    let long : vec_len c.match-take_piece.pieces ≤ vec_len c.loop-slot.pieces + 1 = elim c.match-take_piece.branch [ in-Some-take_piece w ↦ search rules | in_default w ↦ search rules ] in
    let wide : vec_capacity c.match-take_piece.pieces ≡ vec_capacity c.loop-slot.pieces = elim c.match-take_piece.branch [ in-Some-take_piece w ↦ search rules | in_default w ↦ search rules ] in
    record {
      beside = omega (arith, c.push_reserved-in-loop-slot.ensures.len, c.push_reserved-in-loop-slot.ensures.capacity, c.loop-slot.invariant.beside, count);
      room = omega (arith, long, wide, c.loop-slot.invariant.room, count);
      kept = kept_more c.loop-slot.kept.items c.push_reserved-in-loop-slot.new.self.items c.in-Some.slot.now c.take_piece.new.self (values_mut_rest c.next.new.self) _ c.push_reserved-in-loop-slot.ensures.items (c.take_piece.ensures.rest ∙ ap emptied own) next ∙ c.loop-slot.invariant.kept;
      taken = taken_more c.loop-slot.pieces.items c.match-take_piece.pieces.items c.in-Some.slot.now (values_mut_rest c.next.new.self) _ (more ∙ ap (λ o. c.loop-slot.pieces.items ++ option_to_list o) (c.take_piece.ensures.piece ∙ ap (λ s. s.piece) own)) next ∙ c.loop-slot.invariant.taken;
    }
