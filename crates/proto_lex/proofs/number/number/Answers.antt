use Rattle.std.proofs.lemmas.List.{take_rest}
use Rattle.proto_lex.proofs.Numbers.{number_first}
use Rattle.proto_lex.proofs.number.number.Goals as goal

pub returns : goal.returns
returns c = number_first _ _ _ _ _ (take_rest _ 1) c.requires c.is_hex.ensures c.run_len-len.ensures c.number_kind.ensures
