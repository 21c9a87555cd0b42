use Rattle.std.proofs.Common.{◌≡◌, ◌++◌, drop, map}
use Rattle.lsp_answers.proofs.diagnostics.parts_of.Given as goal

-- those so far and those that are left are all
abbrev pub invariant-loop-diag : goal.invariant-loop-diag
invariant-loop-diag l = l.parts.items ++ map (λ d. (d.start, d.«end»)) (drop l.diag-index l.diags) ≡ map (λ d. (d.start, d.«end»)) l.diags
