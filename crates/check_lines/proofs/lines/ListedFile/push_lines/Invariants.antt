use Rattle.std.proofs.Common.{◌≡◌, ◌++◌, take}
use Rattle.check_lines.specs.Lines.{written}
use Rattle.check_lines.proofs.lines.ListedFile.push_lines.Given as goal

-- the lines so far
abbrev pub invariant-loop-diag : goal.invariant-loop-diag
invariant-loop-diag l = record {
  same : l.self ≡ l.initial.self;
  lines : l.out.items ≡ l.fn.out.items ++ written l.initial.self (take l.diag-index l.diags);
}
