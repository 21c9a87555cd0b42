use Rattle.std.proofs.Common.{rules}
use Rattle.check_lines.proofs.LineLemmas.{IsNumber-next}
use Rattle.check_lines.proofs.json_line.write_after.Goals as goal

pub number-requires : goal.number-requires
number-requires c = rw c.format.ensures.text (IsNumber-next c.args.count (search rules))
