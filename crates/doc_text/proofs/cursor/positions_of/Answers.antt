use Rattle.std.proofs.Common.{true}
use Rattle.std.proofs.lemmas.List.Sorted.{non_decreasing_from_is_sorted, IsNonDecreasingBy-from_sort}
use Rattle.doc_text.proofs.cursor.positions_of.Goals as goal

pub positions_in_turn-requires : goal.positions_in_turn-requires
positions_in_turn-requires c = non_decreasing_from_is_sorted _ true c.if-is_sorted.ensures.cases

pub positions_in_turn-requires-2 : goal.positions_in_turn-requires-2
positions_in_turn-requires-2 c = rw (c.as_slice.ensures.value) (IsNonDecreasingBy-from_sort (λ offset. offset) _ c.sort_unstable.ensures.sorted)
