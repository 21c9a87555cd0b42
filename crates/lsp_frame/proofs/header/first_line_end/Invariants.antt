use Rattle.lsp_frame.proofs.Lines.{HasNoLineEndBelow}
use Rattle.lsp_frame.proofs.header.first_line_end.Given as goal

-- no line ends in what has been seen
abbrev pub invariant-loop-i : goal.invariant-loop-i
invariant-loop-i l = HasNoLineEndBelow l.bytes l.i
