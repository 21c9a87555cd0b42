use Rattle.collector_laws.proofs.Texts.{all_given}
use Rattle.collector_laws.proofs.text_laws.texts_of_events.Goals as goal

pub returns : goal.returns
returns c = all_given c.texts_after_events.ensures.texts
