use Rattle.std.proofs.Common.{◌∙◌}
use Rattle.check_lines.proofs.LineLemmas.{written-more}
use Rattle.check_lines.proofs.lines.ListedFile.push_lines.Goals as goal

pub loop-diag-preserved : goal.loop-diag-preserved
loop-diag-preserved c =
    let at = c.loop-diag in
    record {
      same = c.push_line.ensures.same ∙ at.invariant.same;
      lines = written-more c.args.self.now at.self c.args.diags.now c.args.out.now.items at.out.items c.push_line.new.out.items at.diag-index _
          c.loop-diag-test.true at.invariant.same at.invariant.lines c.in_ok-push_line.ensures.line;
    }
