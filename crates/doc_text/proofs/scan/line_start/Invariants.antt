use Rattle.std.proofs.Common.{◌≡◌, ◌+◌, ◌-◌, ◌≤◌, length, drop}
use Rattle.doc_text.specs.Bytes.{line_offset}
use Rattle.doc_text.proofs.scan.line_start.Given as goal

abbrev pub invariant-loop-at : goal.invariant-loop-at
invariant-loop-at l = record { in_range : l.at ≤ length l.text; onward : line_offset l.line l.text ≡ l.at + line_offset l.left (drop l.at l.text) }

abbrev pub decreases-loop-at : goal.decreases-loop-at
decreases-loop-at l = length l.text - l.at

abbrev pub invariant-loop-left : goal.invariant-loop-left
invariant-loop-left l = record { in_range : l.at ≤ length l.text; onward : line_offset l.line l.text ≡ l.at + line_offset l.left (drop l.at l.text) }

abbrev pub decreases-loop-left : goal.decreases-loop-left
decreases-loop-left l = length l.text - l.at
