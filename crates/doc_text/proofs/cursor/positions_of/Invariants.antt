use Rattle.std.proofs.Common.{◌≡◌, map, take}
use Rattle.doc_text.specs.Positions.{position_of}
use Rattle.doc_text.proofs.cursor.positions_of.Given as goal

abbrev pub invariant-loop-offset : goal.invariant-loop-offset
invariant-loop-offset l = l.positions.items ≡ map (position_of l.encoding l.text) (take l.offset-index l.offsets)
