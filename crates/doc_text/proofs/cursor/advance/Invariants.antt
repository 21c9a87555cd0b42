use Rattle.std.proofs.Common.{length, ◌-◌, ◌≤◌}
use Rattle.doc_text.specs.Walks.{IsCursor}
use Rattle.doc_text.proofs.cursor.advance.Given as goal

abbrev pub invariant-loop-cursor : goal.invariant-loop-cursor
invariant-loop-cursor l = record { before : l.cursor.at ≤ l.offset; cursor : IsCursor l.encoding l.text l.cursor }

abbrev pub decreases-loop-cursor : goal.decreases-loop-cursor
decreases-loop-cursor l = length l.text - l.cursor.at
