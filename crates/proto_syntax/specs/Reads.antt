-- What the program's readers give.
use Rattle.std.specs.Prelude.{◌≡◌, List, Option, Some, None, Result, Ok, Err}
use Rattle.proto_tree.specs.declared.lexeme.Lexeme.{Lexeme}
use Rattle.proto_syntax.specs.declared.parts.Unread.{Unread}
use Rattle.proto_syntax.specs.declared.parts.Unread.TheVariants.{Memory, NoForm}

-- What a reader of the program gives, and the tokens that it leaves. Only want of memory keeps it from what the definition says.
abbrev pub Reads : {A : Type 0} → Option (A × List Lexeme) → Result A Unread → List Lexeme → Type 0
Reads read (Ok a) rest = read ≡ Some (a, rest)
Reads read (Err NoForm) rest = read ≡ None
Reads read (Err Memory) rest = Unit {0}
