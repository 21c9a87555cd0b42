use Rattle.std.proofs.Common.{ap, ◌∙◌, nat_lt}
use Rattle.check_lines.specs.declared.format.Format.TheVariants.{Plain}
use Rattle.work_check.specs.Listing.{sources_in}
use Rattle.work_check.specs.declared.wanted.Checked.{Checked}
use Rattle.work_check.proofs.CountLemmas.{all-errors}
use Rattle.work_check.proofs.checking.check.Goals as goal

pub returns-in-Ok-clause-errors : goal.returns-in-Ok-clause-errors
returns-in-Ok-clause-errors g c =
    ap (λ (k : Checked). nat_lt 0 k.errors) c.in-Ok.ensures.checked ∙ all-errors Plain c.new.result (sources_in c.args.config)
