use Rattle.std.proofs.Common.{◌∙◌}
use Rattle.check_lines.specs.Lines.{finding_value, json_text}
use Rattle.check_lines.proofs.LineLemmas.{behind}
use Rattle.check_lines.proofs.json_line.with_finding.Goals as goal

pub returns : goal.returns
unfolding json_text
returns c =
    let f = c.args.finding.now in
    c.into_inner.ensures.items ∙ behind c.new-out.result (finding_value f.folder.now f.path.now f.start f.end f.diag) c.args.text.items c.new-out.ensures.before c.new-out.ensures.tokens c.in_ok-write_finding.ensures
