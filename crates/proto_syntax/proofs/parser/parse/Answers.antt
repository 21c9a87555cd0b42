use Rattle.std.proofs.Common.{length}
use Rattle.proto_lex.specs.Tokens.{byte_order_mark_len}
use Rattle.proto_lex.specs.Tokens as lexer
use Rattle.proto_tree.specs.Read as spec
use Rattle.proto_syntax.proofs.TokenLemmas.{ordered_within}
use Rattle.proto_syntax.proofs.parser.parse.Goals as goal

pub tree_of-requires : goal.tree_of-requires
tree_of-requires c =
    rw c.requires (ordered_within (length c.args.text.now) (byte_order_mark_len c.args.text.now) (lexer.tokens c.args.text.now) (c.ordered_tokens.ensures c.args.text.now))

pub returns : goal.returns
unfolding spec.read
returns c = rw (← c.requires) c.tree_of.ensures
