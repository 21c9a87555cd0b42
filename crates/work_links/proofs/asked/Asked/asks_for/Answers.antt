use Rattle.std.proofs.Common.{◌∙◌, sym}
use Rattle.work_links.proofs.AskedNames.{none_touched}
use Rattle.work_links.proofs.asked.Asked.asks_for.Goals as goal

pub returns-else-self-clause-untouched : goal.returns-else-self-clause-untouched
returns-else-self-clause-untouched c = λ none. none_touched c.args.self.now c.args.touched.now (rw c.if-self.false (rw (← c.as_slice.ensures.value) (sym c.has_one_of.ensures ∙ none)))
