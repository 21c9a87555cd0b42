use Rattle.std.proofs.Common.{arith}
use Rattle.proto_lex.proofs.Comments.{at_comment_end, at_comment_byte, at_comment_last}
use Rattle.proto_lex.proofs.comment.comment_end.Goals as goal
use Rattle.proto_lex.proofs.comment.comment_end.Goals.{else-bytes-at-eq42-via-then-bytes-at-eq42+else-bytes-at-eq47, else-bytes-at-eq42-via-else-bytes-at-eq42}

pub returns-then-bytes-at-eq47-clause-ends : goal.returns-then-bytes-at-eq47-clause-ends
returns-then-bytes-at-eq47-clause-ends c = at_comment_end _ _ c.loop-at.invariant.continues c.loop-at-test.true c.if-bytes-at-eq42.true c.if-bytes-at-eq47.true

pub loop-at-preserved : goal.loop-at-preserved
loop-at-preserved c = record {
  in_range = omega arith;
  continues = at_comment_byte _ _ c.loop-at.invariant.continues c.loop-at-test.true
      (elim c.else-bytes-at-eq42.branch [
        | else-bytes-at-eq42-via-then-bytes-at-eq42+else-bytes-at-eq47 w ↦ λ star slash. w.if-bytes-at-eq47.false slash
        | else-bytes-at-eq42-via-else-bytes-at-eq42 w ↦ λ star slash. w.if-bytes-at-eq42.false star
      ]);
}

pub returns-clause-ends : goal.returns-clause-ends
returns-clause-ends c = at_comment_last _ _ c.loop-at.invariant.continues c.loop-at.invariant.in_range c.loop-at-test.false
