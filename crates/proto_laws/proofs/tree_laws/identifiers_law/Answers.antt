use Rattle.proto_laws.proofs.TokenNames.{names_are_identifiers}
use Rattle.proto_laws.proofs.tree_laws.identifiers_law.Goals as goal

pub returns : goal.returns
returns c = names_are_identifiers c.one_token_list.ensures.exist c.cut_tokens.ensures
