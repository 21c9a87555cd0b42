use Rattle.collector_laws.proofs.Lists.{listed_once}
use Rattle.collector_laws.proofs.text_laws.texts_as_a_list.Goals as goal

pub returns : goal.returns
returns c = listed_once
