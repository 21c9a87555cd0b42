use Rattle.std.proofs.Common.{length}
use Rattle.proto_lex.specs.Tokens.{byte_order_mark_len, tokens}
use Rattle.proto_syntax.proofs.TokenLemmas.{lexemes-within, ordered_within}
use Rattle.proto_syntax.proofs.others.other_lexemes.Goals as goal

pub with_other_words-requires : goal.with_other_words-requires
with_other_words-requires c =
    let text = c.args.text.now in
    rw c.in_ok-lexemes.ensures.lexemes (lexemes-within text (tokens text) (ordered_within (length text) (byte_order_mark_len text) (tokens text) (c.ordered_tokens.ensures text)))
