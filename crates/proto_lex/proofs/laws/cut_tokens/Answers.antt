use Rattle.proto_lex.proofs.Boundaries.{tokens_are_cut}
use Rattle.proto_lex.proofs.Exists.{tokens_exist}
use Rattle.proto_lex.specs.Tokens.{tokens}
use Rattle.proto_lex.proofs.laws.cut_tokens.Goals as goal

pub returns : goal.returns
returns c = λ text utf8. tokens_are_cut text (tokens text) utf8 (tokens_exist text)
