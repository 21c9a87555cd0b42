-- The tokens of the rest of a text.
use Rattle.std.specs.Prelude.{ℕ, ◌-◌, List, length}
use Rattle.proto_lex.specs.declared.token.Token.{Token}
use Rattle.proto_lex.specs.Tokens.{tokens_from}

-- the tokens of the text from an offset on
unfoldable pub tokens_after : List ℕ → ℕ → List Token
tokens_after text at = tokens_from text (length text - at) at
