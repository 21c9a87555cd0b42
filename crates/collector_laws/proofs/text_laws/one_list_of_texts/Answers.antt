use Rattle.collector_laws.proofs.Lists.{one_list_of_texts}
use Rattle.collector_laws.proofs.text_laws.one_list_of_texts.Goals as goal

pub returns : goal.returns
returns c = one_list_of_texts
