use Rattle.std.proofs.Common.{map}
use Rattle.lsp_rpc.specs.Diagnostic.{diagnostic_view}
use Rattle.lsp_answers.proofs.DiagnosticsLemmas.{placed-more}
use Rattle.lsp_answers.proofs.diagnostics.with_ranges.Goals as goal

pub loop-i-preserved : goal.loop-i-preserved
loop-i-preserved c =
    placed-more c.args.encoding c.args.text.now c.args.diags.now c.args.ranges.now (map diagnostic_view c.loop-i.found.items) (map diagnostic_view c.push_diagnostic.new.found.items) c.loop-i.i _ _
    c.loop-i-test.true c.requires c.loop-i.invariant c.in_ok-push_diagnostic.ensures
