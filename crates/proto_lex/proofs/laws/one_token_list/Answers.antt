use Rattle.proto_lex.proofs.Exists.{tokens_exist, tokens_are_unique}
use Rattle.proto_lex.proofs.laws.one_token_list.Goals as goal

pub returns : goal.returns
returns c = record { exist = tokens_exist; unique = tokens_are_unique }
