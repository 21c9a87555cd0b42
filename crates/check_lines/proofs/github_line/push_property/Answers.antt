use Rattle.check_lines.specs.Lines.{property_byte}
use Rattle.check_lines.proofs.LineLemmas.{more-written}
use Rattle.check_lines.proofs.github_line.push_property.Goals as goal

pub loop-byte-preserved : goal.loop-byte-preserved
loop-byte-preserved c =
    more-written property_byte c.args.text.now c.args.out.now.items c.loop-byte.out.items c.push_property_byte.new.out.items c.loop-byte.byte-index _ c.loop-byte-test.true c.loop-byte.invariant c.in_ok-push_property_byte.ensures
