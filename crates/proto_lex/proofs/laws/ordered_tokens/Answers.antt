use Rattle.proto_lex.proofs.Order.{tokens_are_ordered}
use Rattle.proto_lex.proofs.Exists.{tokens_exist}
use Rattle.proto_lex.specs.Tokens.{tokens}
use Rattle.proto_lex.proofs.laws.ordered_tokens.Goals as goal

pub returns : goal.returns
returns c = λ text. tokens_are_ordered text (tokens text) (tokens_exist text)
