use Rattle.std.proofs.Common.{◌≡◌, ◌<◌, ◌≤◌, length, map, take, slice_index}
use Rattle.doc_text.specs.Walks.{IsCursor}
use Rattle.doc_text.specs.Positions.{position_of}
use Rattle.doc_text.proofs.cursor.positions_in_turn.Given as goal

abbrev pub invariant-loop-offset : goal.invariant-loop-offset
invariant-loop-offset l = record {
  cursor : IsCursor l.encoding l.bytes l.cursor;
  before : l.offset-index < length l.offsets → l.cursor.at ≤ slice_index l.offsets l.offset-index;
  positions : l.positions.items ≡ map (position_of l.encoding l.bytes) (take l.offset-index l.offsets);
}
