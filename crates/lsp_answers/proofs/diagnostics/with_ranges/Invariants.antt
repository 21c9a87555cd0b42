use Rattle.std.proofs.Common.{◌≡◌, map, take}
use Rattle.lsp_rpc.specs.Diagnostic.{diagnostic_view}
use Rattle.lsp_answers.specs.Diagnostics.{diagnostic_at}
use Rattle.lsp_answers.proofs.diagnostics.with_ranges.Given as goal

-- the diagnostics so far
abbrev pub invariant-loop-i : goal.invariant-loop-i
invariant-loop-i l = map diagnostic_view l.found.items ≡ map (diagnostic_at l.fn.encoding l.text) (take l.i l.diags)
