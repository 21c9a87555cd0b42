use Rattle.std.proofs.Common.{arith}
use Rattle.proto_lex.proofs.Strings.{at_quote, at_line_feed, at_end, at_plain, at_lone_backslash, at_pair}
use Rattle.proto_lex.proofs.string.string_end.Goals as goal
use Rattle.proto_lex.proofs.string.string_end.Goals.{else-at-bytes-via-then-at-bytes+else-bytes-at-ne10, else-at-bytes-via-else-at-bytes}

pub returns-then-byte-quote : goal.returns-then-byte-quote
returns-then-byte-quote c = at_quote _ c.requires _ _ c.loop-at.invariant.continues c.loop-at-test.true c.if-byte-quote.true

pub returns-then-byte-eq10 : goal.returns-then-byte-eq10
returns-then-byte-eq10 c = at_line_feed _ c.requires _ _ c.loop-at.invariant.continues c.loop-at-test.true c.if-byte-eq10.true

pub loop-at-preserved-then-byte-ne92 : goal.loop-at-preserved-then-byte-ne92
loop-at-preserved-then-byte-ne92 c = record {
  in_range = omega arith;
  continues = at_plain _ c.requires _ _ c.loop-at.invariant.continues c.loop-at-test.true (c.if-byte-quote.false, c.if-byte-ne92.true, c.if-byte-eq10.false);
}

pub loop-at-preserved : goal.loop-at-preserved
loop-at-preserved c = record {
  in_range = omega arith;
  continues = at_pair _ c.requires _ _ c.loop-at.invariant.continues c.if-at-bytes.true c.if-byte-ne92.false c.if-bytes-at-ne10.true;
}

pub returns-else-at-bytes : goal.returns-else-at-bytes
returns-else-at-bytes c = at_lone_backslash _ c.requires _ _ c.loop-at.invariant.continues c.loop-at-test.true c.if-byte-ne92.false
    (elim c.else-at-bytes.branch [ else-at-bytes-via-then-at-bytes+else-bytes-at-ne10 w ↦ λ _. w.if-bytes-at-ne10.false | else-at-bytes-via-else-at-bytes w ↦ λ inside. absurd (omega arith) ])

pub returns : goal.returns
returns c = at_end _ c.requires _ _ c.loop-at.invariant.continues (omega arith)
