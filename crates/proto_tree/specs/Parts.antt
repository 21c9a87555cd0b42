-- Parts of statements. A reader takes a part from the front of the tokens, or there is no such part.
use Rattle.std.specs.Prelude.{◌≡◌, ℕ, zero, suc, ◌-◌, Bool, true, false, not, ◌&&◌, List, [], ◌∷◌, ◌++◌, length, take, Option, Some, None, if◌then◌else◌}
use Rattle.proto_tree.specs.declared.node.Span.{Span}
use Rattle.proto_tree.specs.declared.node.Literal.{Literal}
use Rattle.proto_tree.specs.declared.node.TypeName.{TypeName}
use Rattle.proto_tree.specs.declared.node.Number.{Number}
use Rattle.proto_tree.specs.declared.lexeme.Lexeme.{Lexeme}
use Rattle.proto_tree.specs.declared.lexeme.Terminal.{Terminal}
use Rattle.proto_tree.specs.declared.lexeme.Terminal.TheVariants as w
use Rattle.proto_tree.specs.Lexeme.{is, same_terminal, is_identifier}
use Rattle.proto_tree.specs.Cut.{ends_in}

abbrev pub Reader : Type 0 → Type 0
Reader A = List Lexeme → Option (A × List Lexeme)

-- one reader behind another
abbrev pub and_then : {A B : Type 0} → Option (A × List Lexeme) → (A → Reader B) → Option (B × List Lexeme)
and_then (Some p) f = f p.0 p.1
and_then None f = None

infixl 10 ◌>>=◌
abbrev pub ◌>>=◌ : {A B : Type 0} → Reader A → (A → Reader B) → Reader B
r >>= f = λ ts. and_then (r ts) f

infixl 10 ◌>>◌
abbrev pub ◌>>◌ : {A B : Type 0} → Reader A → Reader B → Reader B
r >> s = r >>= (λ _. s)

abbrev pub pure : {A : Type 0} → A → Reader A
pure a = λ ts. Some (a, ts)

abbrev pub nothing : {A : Type 0} → Reader A
nothing = λ ts. None

-- the whole of the tokens
abbrev pub if_all : {A : Type 0} → Option (A × List Lexeme) → Option A
if_all None = None
if_all (Some (a, [])) = Some a
if_all (Some (a, t ∷ ts)) = None

abbrev pub whole : {A : Type 0} → Reader A → List Lexeme → Option A
whole r ts = if_all (r ts)

-- ---- one token

-- one token whose terminal passes
unfoldable pub one : (Terminal → Bool) → Reader Span
one fits [] = None
one fits (t ∷ ts) = if fits t.terminal then Some (t.span, ts) else None

abbrev pub terminal : Terminal → Reader Span
terminal it = one (λ x. same_terminal x it)

abbrev pub identifier : Reader Span
identifier = one is_identifier

-- whether the terminal stands here; if so it is taken
unfoldable pub eat : Terminal → Reader Bool
eat it [] = Some (false, [])
eat it (t ∷ ts) = if is it t then Some (true, ts) else Some (false, t ∷ ts)

-- ---- several

abbrev pub between : Span → Span → Span
between first last = record { start = first.start; «end» = last.«end» }

abbrev pub last_of : Span → List Span → Span
last_of s [] = s
last_of s (t ∷ ts) = last_of t ts

-- as many tokens of a terminal as stand there
unfoldable pub run : (Terminal → Bool) → List Lexeme → List Span × List Lexeme
run fits [] = ([], [])
run fits (t ∷ ts) = if fits t.terminal then (t.span ∷ (run fits ts).0, (run fits ts).1) else ([], t ∷ ts)

-- One or more items, with the separator between each two. The number bounds the turns: the count of the tokens is always enough.
abbrev mutual
  pub separated_by : {A : Type 0} → Terminal → Reader A → ℕ → Reader (List A)
  separated_by separator item zero = nothing
  separated_by separator item (suc n) = item >>= (λ first. eat separator >>= (λ again. if again then separated_by separator item n >>= (λ more. pure (first ∷ more)) else pure (first ∷ [])))

unfoldable pub separated : {A : Type 0} → Terminal → Reader A → Reader (List A)
separated separator item ts = separated_by separator item (length ts) ts

-- identifiers joined by dots
abbrev pub full : Reader (List Span)
full = separated w.Dot identifier

abbrev pub last_span : Lexeme → List Lexeme → Span
last_span t [] = t.span
last_span t (u ∷ ts) = last_span u ts

-- from the first token to the last
abbrev pub span_of : List Lexeme → Span
span_of [] = record { start = 0; «end» = 0 }
span_of (t ∷ ts) = between t.span (last_span t ts)

-- type: `[.] full`
unfoldable pub type_name : Reader TypeName
type_name [] = None
type_name (t ∷ ts) = (eat w.Dot >>= (λ absolute. full >>= (λ components. pure (record { span = between t.span (last_of t.span components); is_absolute = absolute; components = components })))) (t ∷ ts)

abbrev pub texts : List Lexeme → List Span × List Lexeme
texts = run (λ x. same_terminal x w.PlainText)

abbrev pub literal_of : List Span × List Lexeme → Option (Literal × List Lexeme)
literal_of ([], rest) = None
literal_of (s ∷ ss, rest) = Some (record { span = between s (last_of s ss); parts = s ∷ ss }, rest)

-- a plain string literal: adjacent plain strings
unfoldable pub literal : Reader Literal
literal ts = literal_of (texts ts)

-- a number, with a minus before it where one may stand
unfoldable pub number : Bool → Reader Number
number true [] = None
number true (t ∷ ts) = (eat w.Minus >>= (λ minus. terminal w.Int >>= (λ digits. pure (record { span = between t.span digits; is_negative = minus; digits = digits })))) (t ∷ ts)
number false ts = (terminal w.Int >>= (λ digits. pure (record { span = digits; is_negative = false; digits = digits }))) ts

-- ---- values of options

-- what closes an opening bracket
abbrev pub opener : Terminal → Option Terminal
opener w.OpenBrace = Some w.CloseBrace
opener w.OpenBracket = Some w.CloseBracket
opener w.OpenParen = Some w.CloseParen
opener _ = None

abbrev pub is_closer : Terminal → Bool
is_closer w.CloseBrace = true
is_closer w.CloseBracket = true
is_closer w.CloseParen = true
is_closer _ = false

-- braces, brackets and parentheses in pairs, one inside the other or one after the other
pub data IsBalanced : List Lexeme → Type 0 where
  none : IsBalanced []
  plain : {t : Lexeme} {ts : List Lexeme} → opener t.terminal ≡ None → is_closer t.terminal ≡ false → IsBalanced ts → IsBalanced (t ∷ ts)
  pair : {first : Lexeme} (last : Lexeme) (inner ts : List Lexeme) → opener first.terminal ≡ Some last.terminal → IsBalanced inner → IsBalanced ts → IsBalanced (first ∷ inner ++ last ∷ ts)

-- The same as a test: each closing one closes the last that is open. The list has what closes those that are open.
abbrev pub closes : List Terminal → List Lexeme → Bool
closes [] [] = true
closes (c ∷ pending) [] = false
closes [] (t ∷ ts) = elim (opener t.terminal) [ Some c ↦ closes (c ∷ []) ts | None ↦ not (is_closer t.terminal) && closes [] ts ]
closes (c ∷ pending) (t ∷ ts) = elim (opener t.terminal) [ Some d ↦ closes (d ∷ c ∷ pending) ts | None ↦ if is_closer t.terminal then is c t && closes pending ts else closes (c ∷ pending) ts ]

abbrev pub is_balanced : List Lexeme → Bool
is_balanced ts = closes [] ts

-- the tokens but the last n
abbrev pub but_last : ℕ → List Lexeme → List Lexeme
but_last n ts = take (length ts - n) ts

-- some tokens whose brackets are in pairs
abbrev pub is_content : List Lexeme → Bool
is_content [] = false
is_content (t ∷ ts) = is_balanced (t ∷ ts)

-- the end of a field: `;`, or options in brackets and `;`
unfoldable pub is_options_end : List Lexeme → Bool
is_options_end [] = false
is_options_end (t ∷ []) = is w.Semicolon t
is_options_end (t ∷ u ∷ ts) = is w.OpenBracket t && ends_in w.Semicolon (u ∷ ts) && ends_in w.CloseBracket (but_last 1 (u ∷ ts)) && is_content (but_last 2 (u ∷ ts))

-- takes the rest if it passes
abbrev pub rest_if : (List Lexeme → Bool) → Reader Unit
rest_if fits ts = if fits ts then Some (tt, []) else None
