use Rattle.proto_lex.specs.Tokens.{byte_order_mark_len, tokens}
use Rattle.proto_tree.specs.Read.{read}
use Rattle.proto_laws.proofs.NameOrder.{components-rise, type_names-rise}
use Rattle.proto_laws.proofs.tree_laws.type_names_law.Goals as goal

pub returns-clause-names : goal.returns-clause-names
unfolding read
returns-clause-names c = λ text. type_names-rise text (tokens text) (byte_order_mark_len text) (c.ordered_tokens.ensures text)

pub returns-clause-components : goal.returns-clause-components
unfolding read
returns-clause-components c = λ text. components-rise text (tokens text) (byte_order_mark_len text) (c.ordered_tokens.ensures text)
