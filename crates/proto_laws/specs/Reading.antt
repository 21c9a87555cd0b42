-- What is spelled as the grammar says is read so, and as nothing else.
use Rattle.std.specs.Prelude.{◌≡◌, List, ◌∷◌, ◌++◌, Some}
use Rattle.proto_tree.specs.declared.node.Header.{Header}
use Rattle.proto_tree.specs.declared.node.Node.{Node}
use Rattle.proto_tree.specs.declared.lexeme.Lexeme.{Lexeme}
use Rattle.proto_tree.specs.declared.lexeme.Body.{Body}
use Rattle.proto_tree.specs.declared.lexeme.Terminal.TheVariants as w
use Rattle.proto_tree.specs.Parts.{span_of}
use Rattle.proto_tree.specs.Forms.{statement, header_and_rest}
use Rattle.proto_tree.specs.Grammar.{◌⊳◌, IsTerminal, IsHeader, Spells}

-- tokens that spell a header, and a `{` behind them, are read as that header, whatever follows
abbrev pub HeadersAreRead : Type 0
HeadersAreRead = (head : Header) (front rest : List Lexeme) → (IsHeader head ⊳ IsTerminal w.OpenBrace) front → header_and_rest (front ++ rest) ≡ Some (head, rest)

-- tokens begin with one header and its `{` at most
abbrev pub HeadersAreUnique : Type 0
HeadersAreUnique =
    (head other : Header) (front rest other_front other_rest : List Lexeme) → (IsHeader head ⊳ IsTerminal w.OpenBrace) front → (IsHeader other ⊳ IsTerminal w.OpenBrace) other_front → front ++ rest ≡ other_front ++ other_rest
    → (head ≡ other) × (rest ≡ other_rest)

-- tokens that spell a statement are read as that statement
abbrev pub StatementsAreRead : Type 0
StatementsAreRead = (body : Body) (t : Lexeme) (ts : List Lexeme) (n : Node) → Spells body t.terminal (span_of (t ∷ ts)) n (t ∷ ts) → statement body (t ∷ ts) ≡ Some n

-- tokens spell one statement at most
abbrev pub StatementsAreUnique : Type 0
StatementsAreUnique = (body : Body) (t : Lexeme) (ts : List Lexeme) (n other : Node) → Spells body t.terminal (span_of (t ∷ ts)) n (t ∷ ts) → Spells body t.terminal (span_of (t ∷ ts)) other (t ∷ ts) → n ≡ other
