use Rattle.std.proofs.Common.{◌≡◌, false}
use Rattle.library_cases.proofs.boards.run.Given as goal

abbrev pub invariant-loop-call : goal.invariant-loop-call
invariant-loop-call l = l.board.is_lent ≡ false
