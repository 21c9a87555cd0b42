use Rattle.std.proofs.Common.{◌∙◌}
use Rattle.check_lines.specs.Lines.{result_value, sarif_text}
use Rattle.check_lines.proofs.LineLemmas.{behind}
use Rattle.check_lines.proofs.sarif_line.with_result.Goals as goal

pub returns : goal.returns
unfolding sarif_text
returns c =
    let f = c.args.finding.now in
    c.into_inner.ensures.items ∙ behind c.new-out.result (result_value c.args.uri.now f.start f.end f.diag.message) c.args.text.items c.new-out.ensures.before c.new-out.ensures.tokens c.in_ok-write_result.ensures
