use Rattle.check_lines.specs.Lines.{escaped_byte}
use Rattle.check_lines.proofs.LineLemmas.{more-written}
use Rattle.check_lines.proofs.github_line.push_message.Goals as goal

pub loop-byte-preserved : goal.loop-byte-preserved
loop-byte-preserved c =
    more-written escaped_byte c.args.text.now c.args.out.now.items c.loop-byte.out.items c.push_escaped.new.out.items c.loop-byte.byte-index _ c.loop-byte-test.true c.loop-byte.invariant c.in_ok-push_escaped.ensures
