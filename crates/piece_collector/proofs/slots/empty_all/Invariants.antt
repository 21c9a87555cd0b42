use Rattle.std.proofs.Common.{◌≡◌, ◌+◌, ◌≤◌, ◌++◌, length, map, vec_len, vec_capacity}
use Rattle.std.specs.BTreeMap.{values}
use Rattle.std.specs.BTreeMap.IterMut.{values_mut_rest}
use Rattle.piece_collector.specs.Lending.{emptied, pieces_in}
use Rattle.piece_collector.proofs.slots.empty_all.Given as goal

-- what is still taken comes to what the whole takes
abbrev pub invariant-loop-slot : goal.invariant-loop-slot
invariant-loop-slot g l = record {
  beside : vec_len l.kept + length (values_mut_rest l.slot-iterator) ≤ vec_capacity l.kept;
  room : vec_len l.pieces + length (values_mut_rest l.slot-iterator) ≤ vec_capacity l.pieces;
  kept : l.kept.items ++ map emptied (values_mut_rest l.slot-iterator) ≡ l.fn.kept.items ++ map emptied (values l.fn.slots);
  taken : l.pieces.items ++ pieces_in (values_mut_rest l.slot-iterator) ≡ l.fn.pieces.items ++ pieces_in (values l.fn.slots);
}
