use Rattle.std.proofs.Common.{arith}
use Rattle.doc_text.proofs.Walks.{cursor_start}
use Rattle.doc_text.proofs.cursor.positions_in_turn.Goals as goal

pub loop-offset-init : goal.loop-offset-init
loop-offset-init c = record {
  cursor = cursor_start _ _ c.front-cursor.result c.as_bytes-bytes.ensures.utf8 c.front-cursor.ensures.at c.front-cursor.ensures.line c.front-cursor.ensures.character;
  before = λ inside. omega (arith, c.front-cursor.ensures.at);
  positions = c.in_ok-positions.ensures.items;
}
