use Rattle.proto_laws.proofs.Apart.{names_are_apart}
use Rattle.proto_laws.proofs.tree_laws.names_apart.Goals as goal

pub returns : goal.returns
returns c = names_are_apart c.one_token_list.ensures.exist c.ordered_tokens.ensures
