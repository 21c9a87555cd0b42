use Rattle.std.proofs.Common.{◌≡◌, ◌≤◌}
use Rattle.doc_text.specs.Bytes.{line_end_count}
use Rattle.doc_text.proofs.scan.line_end_count.Given as goal

abbrev pub invariant-loop-at : goal.invariant-loop-at
invariant-loop-at l = record { value : l.ends ≡ line_end_count l.at l.block; few : l.ends ≤ l.at }
