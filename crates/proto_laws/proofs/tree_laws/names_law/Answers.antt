use Rattle.proto_lex.specs.Tokens.{byte_order_mark_len, tokens}
use Rattle.proto_tree.specs.Read.{read}
use Rattle.proto_laws.proofs.NameOrder.{names-rise}
use Rattle.proto_laws.proofs.tree_laws.names_law.Goals as goal

pub returns : goal.returns
unfolding read
returns c = λ text. names-rise text (tokens text) (byte_order_mark_len text) (c.ordered_tokens.ensures text)
