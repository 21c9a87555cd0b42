-- What the grammar sees of a token: its terminal, and where it stands.
use Rattle.std.specs.Prelude.{ℕ, ◌≤◌, Bool, true, false, not, ◌==◌, List, [], ◌∷◌, ◌++◌, filter, map, slice_index, slice_range, if◌then◌else◌, codes, unwrap_or}
use Rattle.std.specs.List.{list_any, zip}
use Rattle.std.specs.Map.{lookup}
use Rattle.std.specs.Str.{bytes_eq}
use Rattle.proto_lex.specs.declared.token.Token.{Token}
use Rattle.proto_lex.specs.declared.token.Kind.{Kind}
use Rattle.proto_lex.specs.declared.token.Kind.TheVariants as k
use Rattle.proto_tree.specs.declared.node.Span.{Span}
use Rattle.proto_tree.specs.declared.lexeme.Lexeme.{Lexeme}
use Rattle.proto_tree.specs.declared.lexeme.Terminal.{Terminal}
use Rattle.proto_tree.specs.declared.lexeme.Terminal.TheVariants as w
use Rattle.proto_tree.specs.contracts.lexeme.Terminal.{the_type}
use denote.Enum.Bare.{sameb}

-- `==` on terminals
abbrev pub same_terminal : Terminal → Terminal → Bool
same_terminal = sameb the_type

abbrev pub is : Terminal → Lexeme → Bool
is terminal t = same_terminal t.terminal terminal

-- each word of the language is an identifier
abbrev pub is_identifier : Terminal → Bool
is_identifier w.Int = false
is_identifier w.Float = false
is_identifier w.PlainText = false
is_identifier w.EscapedText = false
is_identifier w.OpenBrace = false
is_identifier w.CloseBrace = false
is_identifier w.OpenParen = false
is_identifier w.CloseParen = false
is_identifier w.OpenBracket = false
is_identifier w.CloseBracket = false
is_identifier w.Less = false
is_identifier w.Greater = false
is_identifier w.Semicolon = false
is_identifier w.Comma = false
is_identifier w.Equals = false
is_identifier w.Dot = false
is_identifier w.Colon = false
is_identifier w.Plus = false
is_identifier w.Minus = false
is_identifier w.Slash = false
is_identifier _ = true

abbrev pub is_block_word : Terminal → Bool
is_block_word w.Message = true
is_block_word w.Enum = true
is_block_word w.Service = true
is_block_word w.Oneof = true
is_block_word w.Extend = true
is_block_word w.Group = true
is_block_word w.Rpc = true
is_block_word _ = false

-- neither a `;` nor a brace
abbrev pub is_plain : Terminal → Bool
is_plain w.Semicolon = false
is_plain w.OpenBrace = false
is_plain w.CloseBrace = false
is_plain _ = true

-- ---- from the tokens of a text

-- the words that name a statement, as they are written
abbrev pub statement_words : List (List ℕ × Terminal)
statement_words =
    (codes "message", w.Message)
    ∷ (codes "enum", w.Enum)
    ∷ (codes "service", w.Service)
    ∷ (codes "oneof", w.Oneof)
    ∷ (codes "extend", w.Extend)
    ∷ (codes "rpc", w.Rpc)
    ∷ (codes "syntax", w.Syntax)
    ∷ (codes "import", w.Import)
    ∷ (codes "package", w.Package)
    ∷ (codes "option", w.Option)
    ∷ (codes "reserved", w.Reserved)
    ∷ []

-- the words that stand inside a statement
abbrev pub inner_words : List (List ℕ × Terminal)
inner_words =
    (codes "weak", w.Weak)
    ∷ (codes "public", w.Public)
    ∷ (codes "repeated", w.Repeated)
    ∷ (codes "optional", w.Optional)
    ∷ (codes "map", w.Map)
    ∷ (codes "stream", w.Stream)
    ∷ (codes "returns", w.Returns)
    ∷ (codes "to", w.To)
    ∷ (codes "max", w.Max)
    ∷ []

-- the terminal that an identifier is
unfoldable pub keyword : List ℕ → Terminal
keyword name = unwrap_or (lookup (bytes_eq name) (statement_words ++ inner_words)) w.Name

-- the symbols, each with its terminal
abbrev pub symbols : List (ℕ × Terminal)
symbols =
    zip (codes "{}()[]<>;,=.:+-")
    (w.OpenBrace ∷ w.CloseBrace ∷ w.OpenParen ∷ w.CloseParen ∷ w.OpenBracket ∷ w.CloseBracket ∷ w.Less ∷ w.Greater
    ∷ w.Semicolon ∷ w.Comma ∷ w.Equals ∷ w.Dot ∷ w.Colon ∷ w.Plus ∷ w.Minus ∷ [])

-- the symbol that a byte is; a lexer gives no other byte than these and `/`
abbrev pub symbol : ℕ → Terminal
symbol b = unwrap_or (lookup (λ s. b == s) symbols) w.Slash

-- a string that holds a backslash is not plain
abbrev pub string_terminal : List ℕ → Terminal
string_terminal b = if list_any (λ x. x == 92) b then w.EscapedText else w.PlainText

abbrev pub terminal_of : Kind → List ℕ → Terminal
terminal_of k.Ident b = keyword b
terminal_of k.Int b = w.Int
terminal_of k.Float b = w.Float
terminal_of k.Str b = string_terminal b
terminal_of k.Symbol b = symbol (slice_index b 0)
terminal_of (k.Bad reason) b = w.Slash

abbrev pub is_bad : Kind → Bool
is_bad (k.Bad reason) = true
is_bad _ = false

-- the token lies in a text of this length
abbrev pub IsWithin : ℕ → Token → Type 0
IsWithin len t = (t.start ≤ t.«end») × (t.«end» ≤ len)

abbrev pub span_of_token : Token → Span
span_of_token t = record { start = t.start; «end» = t.«end» }

abbrev pub lexeme_of : List ℕ → Token → Lexeme
lexeme_of text t = record { terminal = terminal_of t.kind (slice_range text t.start t.«end»); span = span_of_token t }

-- what the grammar reads: each token but the bad ones
abbrev pub lexemes : List ℕ → List Token → List Lexeme
lexemes text tokens = map (lexeme_of text) (filter (λ t. not (is_bad t.kind)) tokens)
