use Rattle.proto_lex.proofs.Boundaries.{characters_are_single}
use Rattle.proto_lex.proofs.Exists.{tokens_exist}
use Rattle.proto_lex.specs.Tokens.{tokens}
use Rattle.proto_lex.proofs.laws.single_characters.Goals as goal

pub returns : goal.returns
returns c = λ text utf8. characters_are_single text (tokens text) utf8 (tokens_exist text)
