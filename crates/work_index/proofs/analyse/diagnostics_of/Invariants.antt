use Rattle.std.proofs.Common.{◌≡◌, ◌++◌, drop}
use Rattle.work_index.proofs.analyse.diagnostics_of.Given as goal

-- what is found and what is left are all
abbrev pub invariant-links : goal.invariant-links
invariant-links l = l.found ++ drop l.diag-index l.diag-items ≡ l.facts.diags ++ l.links.diags
