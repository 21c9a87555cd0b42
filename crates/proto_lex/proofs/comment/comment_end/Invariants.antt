use Rattle.std.proofs.Common.{length, ◌-◌, ◌≤◌, Bool}
use Rattle.proto_lex.specs.Forms.{IsCommentRest}
use Rattle.proto_lex.proofs.LongestFront.{Continues}
use Rattle.proto_lex.proofs.comment.comment_end.Given as goal

abbrev pub invariant-loop-at : goal.invariant-loop-at
invariant-loop-at l = record { in_range : l.at ≤ length l.bytes; continues : Continues Bool IsCommentRest IsCommentRest l.bytes l.at }

abbrev pub decreases-loop-at : goal.decreases-loop-at
decreases-loop-at l = length l.bytes - l.at
