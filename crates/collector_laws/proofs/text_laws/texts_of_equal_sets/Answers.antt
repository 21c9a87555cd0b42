use Rattle.collector_laws.proofs.Lists.{equal_texts_alike}
use Rattle.collector_laws.proofs.text_laws.texts_of_equal_sets.Goals as goal

pub returns : goal.returns
returns c = equal_texts_alike
