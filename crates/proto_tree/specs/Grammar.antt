-- The grammar of statements: which tokens spell which node, by the forms of each body, as docs/DEFINITIONS.md lists
-- them.
--
-- In the forms, P is a plain string literal, N the name of an option, and C what an option is set to; each is defined
-- below, as `full` and `type` are. `[ C ]` is a C between these two tokens; in other square brackets, as in `[stream]`,
-- stands what may be left out.
use Rattle.std.specs.Prelude.{◌≡◌, ◌⊎◌, ◌≤◌, Bool, true, false, not, IsTrue, MatchBool, List, [], ◌∷◌, ◌++◌, length, map, Some}
use Rattle.std.specs.List.{AllPass}
use Rattle.proto_tree.specs.declared.node.Span.{Span}
use Rattle.proto_tree.specs.declared.node.Literal.{Literal}
use Rattle.proto_tree.specs.declared.node.Field.{Field}
use Rattle.proto_tree.specs.declared.node.MapField.{MapField}
use Rattle.proto_tree.specs.declared.node.TypeName.{TypeName}
use Rattle.proto_tree.specs.declared.node.Number.{Number}
use Rattle.proto_tree.specs.declared.node.RangeEnd.{RangeEnd}
use Rattle.proto_tree.specs.declared.node.RangeEnd.TheVariants as bound
use Rattle.proto_tree.specs.declared.node.ReservedRange.{ReservedRange}
use Rattle.proto_tree.specs.declared.node.ReservedList.{ReservedList}
use Rattle.proto_tree.specs.declared.node.ReservedList.TheVariants.{Ranges, Names}
use Rattle.proto_tree.specs.declared.node.Header.{Header}
use Rattle.proto_tree.specs.declared.node.Header.TheVariants as header
use Rattle.proto_tree.specs.declared.node.Node.{Node}
use Rattle.proto_tree.specs.declared.node.Node.TheVariants as node
use Rattle.proto_tree.specs.declared.lexeme.Lexeme.{Lexeme}
use Rattle.proto_tree.specs.declared.lexeme.Body.{Body}
use Rattle.proto_tree.specs.declared.lexeme.Body.TheVariants as b
use Rattle.proto_tree.specs.declared.lexeme.Terminal.{Terminal}
use Rattle.proto_tree.specs.declared.lexeme.Terminal.TheVariants as w
use Rattle.proto_tree.specs.Lexeme.{is, is_identifier}
use Rattle.proto_tree.specs.Cut.{begins}
use Rattle.proto_tree.specs.Parts.{IsBalanced, span_of}
use Rattle.proto_tree.specs.Forms.{is_label, statement, header_and_rest}

-- tokens of one form, and behind them those of another
infixr 10 ◌⊳◌
abbrev pub ◌⊳◌ : (List Lexeme → Type 0) → (List Lexeme → Type 0) → List Lexeme → Type 0
(P ⊳ Q) ts = (front : List Lexeme) × (rest : List Lexeme) × (ts ≡ front ++ rest) × P front × Q rest

-- ---- parts

-- one token: this terminal
abbrev pub IsTerminal : Terminal → List Lexeme → Type 0
IsTerminal it ts = (t : Lexeme) × (ts ≡ t ∷ []) × (t.terminal ≡ it)

-- one token: an identifier
abbrev pub IsIdent : Span → List Lexeme → Type 0
IsIdent span ts = (t : Lexeme) × (ts ≡ t ∷ []) × IsTrue (is_identifier t.terminal) × (t.span ≡ span)

-- one token: this terminal, at this span
abbrev pub IsWordAt : Terminal → Span → List Lexeme → Type 0
IsWordAt it span ts = (t : Lexeme) × (ts ≡ t ∷ []) × (t.terminal ≡ it) × (t.span ≡ span)

-- the terminal, or nothing
abbrev pub IsFlag : Terminal → Bool → List Lexeme → Type 0
IsFlag it flag ts = MatchBool flag (IsTerminal it ts) (ts ≡ [])

-- one entry or more, with the separator between each two
abbrev pub IsSeparated : {A : Type 0} → Terminal → (A → List Lexeme → Type 0) → List A → List Lexeme → Type 0
IsSeparated separator P [] ts = ⊥
IsSeparated separator P (x ∷ []) ts = P x ts
IsSeparated separator P (x ∷ y ∷ more) ts = (P x ⊳ (IsTerminal separator ⊳ IsSeparated separator P (y ∷ more))) ts

-- full: Ident, then any number of `.` Ident
abbrev pub IsFull : List Span → List Lexeme → Type 0
IsFull = IsSeparated w.Dot IsIdent

-- type: `[.] full`, whose span is the whole
abbrev pub IsType : TypeName → List Lexeme → Type 0
IsType name ts = (IsFlag w.Dot name.is_absolute ⊳ IsFull name.components) ts × (name.span ≡ span_of ts)

-- P: one string or more, none with a backslash
abbrev pub IsLiteral : Literal → List Lexeme → Type 0
IsLiteral literal ts = (map (λ t. t.span) ts ≡ literal.parts) × AllPass (is w.PlainText) ts × ¬ (ts ≡ []) × (literal.span ≡ span_of ts)

-- `[-]` Int, where a minus may stand, and else Int
abbrev pub IsNumber : Bool → Number → List Lexeme → Type 0
IsNumber may_be_negative n ts = (IsFlag w.Minus n.is_negative ⊳ IsWordAt w.Int n.digits) ts × (n.is_negative ≡ true → may_be_negative ≡ true) × (n.span ≡ span_of ts)

-- zero to two labels
abbrev pub IsLabels : List Span → List Lexeme → Type 0
IsLabels spans ts = (map (λ t. t.span) ts ≡ spans) × AllPass (λ t. is_label t.terminal) ts × (length ts ≤ 2)

-- the first token is a label
abbrev pub begins_with_label : List Lexeme → Bool
begins_with_label [] = false
begins_with_label (t ∷ ts) = is_label t.terminal

-- all labels are taken: two, or fewer and the next token is no label
abbrev pub AreAllLabels : List Span → List Lexeme → Type 0
AreAllLabels spans behind = (length spans ≡ 2) ⊎ (begins_with_label behind ≡ false)

-- as many labels as stand there, at most two, and behind them the rest of the form
abbrev pub IsLabelled : List Span → (List Lexeme → Type 0) → List Lexeme → Type 0
IsLabelled spans P = IsLabels spans ⊳ (λ behind. AreAllLabels spans behind × P behind)

-- tokens of one form, and the span from the first to the last
abbrev pub IsAt : (List Lexeme → Type 0) → Span → List Lexeme → Type 0
IsAt P span ts = P ts × (span ≡ span_of ts)

-- C: one token or more, with brackets of each kind balanced and nested
abbrev pub IsContent : List Lexeme → Type 0
IsContent ts = IsBalanced ts × ¬ (ts ≡ [])

-- `[ C ]` or nothing, and `;`
abbrev pub IsFieldEnd : List Lexeme → Type 0
IsFieldEnd ts = IsTerminal w.Semicolon ts ⊎ (IsTerminal w.OpenBracket ⊳ (IsContent ⊳ (IsTerminal w.CloseBracket ⊳ IsTerminal w.Semicolon))) ts

-- part of an option's name: Ident or `( [.] full )`
abbrev pub IsOptionPart : List Lexeme → Type 0
IsOptionPart ts = ((span : Span) × IsIdent span ts) ⊎ ((absolute : Bool) × (parts : List Span) × (IsTerminal w.OpenParen ⊳ (IsFlag w.Dot absolute ⊳ (IsFull parts ⊳ IsTerminal w.CloseParen))) ts)

-- N: part, then any number of `.` part
abbrev pub IsOptionName : List Lexeme → Type 0
IsOptionName ts = (parts : List Span) × IsSeparated w.Dot (λ span. IsOptionPart) parts ts

-- a, `a to b` or `a to max`
abbrev pub IsRangeEnd : Bool → RangeEnd → List Lexeme → Type 0
IsRangeEnd may_be_negative bound.Same ts = ts ≡ []
IsRangeEnd may_be_negative (bound.Number n) ts = (IsTerminal w.To ⊳ IsNumber may_be_negative n) ts
IsRangeEnd may_be_negative (bound.Max span) ts = (IsTerminal w.To ⊳ IsWordAt w.Max span) ts

abbrev pub IsRange : Bool → ReservedRange → List Lexeme → Type 0
IsRange may_be_negative range = IsNumber may_be_negative range.low ⊳ IsRangeEnd may_be_negative range.high

-- ranges joined by `,`, or plain string literals joined by `,`
abbrev pub IsReservedList : Bool → ReservedList → List Lexeme → Type 0
IsReservedList may_be_negative (Ranges ranges) = IsSeparated w.Comma (IsRange may_be_negative) ranges
IsReservedList may_be_negative (Names names) = IsSeparated w.Comma IsLiteral names

-- `( [stream] type )`, with the flag exactly where `stream` is the first token behind the `(`
abbrev pub IsInParentheses : TypeName → List Lexeme → Type 0
IsInParentheses name = IsTerminal w.OpenParen ⊳ (λ inside. (IsFlag w.Stream (begins w.Stream inside) ⊳ (IsType name ⊳ IsTerminal w.CloseParen)) inside)

-- ---- what stands before the `{` of a block, or before the `;` of an rpc

abbrev pub IsHeader : Header → List Lexeme → Type 0
IsHeader (header.Message name) = IsTerminal w.Message ⊳ IsIdent name
IsHeader (header.Enum name) = IsTerminal w.Enum ⊳ IsIdent name
IsHeader (header.Service name) = IsTerminal w.Service ⊳ IsIdent name
IsHeader (header.Oneof name) = IsTerminal w.Oneof ⊳ IsIdent name
IsHeader (header.Extend target) = IsTerminal w.Extend ⊳ IsType target
IsHeader (header.Group name) = IsTerminal w.Group ⊳ (IsIdent name ⊳ (IsTerminal w.Equals ⊳ IsTerminal w.Int))
IsHeader (header.Rpc name request response) =
    IsTerminal w.Rpc ⊳ (IsIdent name ⊳ (IsInParentheses request ⊳ (IsTerminal w.Returns ⊳ IsInParentheses response)))

-- ---- statements

-- `public`, `weak` or nothing
abbrev pub IsModifier : Bool → List Lexeme → Type 0
IsModifier is_public ts = MatchBool is_public (IsTerminal w.Public ts) ((ts ≡ []) ⊎ IsTerminal w.Weak ts)

-- The words with which a form of the body begins; where a statement begins with one of them, no other form is tried.
abbrev pub is_listed_in_message : Terminal → Bool
is_listed_in_message w.Message = true
is_listed_in_message w.Enum = true
is_listed_in_message w.Extend = true
is_listed_in_message w.Option = true
is_listed_in_message w.Oneof = true
is_listed_in_message w.Reserved = true
is_listed_in_message w.Semicolon = true
is_listed_in_message _ = false

abbrev pub is_listed_in_oneof : Terminal → Bool
is_listed_in_oneof w.Option = true
is_listed_in_oneof w.Semicolon = true
is_listed_in_oneof _ = false

abbrev pub is_listed_in_extend : Terminal → Bool
is_listed_in_extend w.Semicolon = true
is_listed_in_extend _ = false

abbrev pub is_listed_in_enum : Terminal → Bool
is_listed_in_enum w.Option = true
is_listed_in_enum w.Reserved = true
is_listed_in_enum w.Semicolon = true
is_listed_in_enum _ = false

-- In this body a statement that begins with this terminal may be a field: the body's forms end with 'else field', and no
-- other one without a block begins with the terminal.
abbrev pub may_be_field : Body → Terminal → Bool
may_be_field b.Message first = not (is_listed_in_message first)
may_be_field b.Oneof first = not (is_listed_in_oneof first)
may_be_field b.Extend first = not (is_listed_in_extend first)
may_be_field _ first = false

abbrev pub has_options : Body → Bool
has_options b.Extend = false
has_options _ = true

-- In a body, with this terminal in front and with this whole span, these tokens spell the node: a rule for each form of a
-- statement without a block.
pub data Spells : Body → Terminal → Span → Node → List Lexeme → Type 0 where
  -- Syntax: `syntax = P ;`
  is_syntax : {span : Span} {value : Literal} {ts : List Lexeme}
      → (IsTerminal w.Syntax ⊳ (IsTerminal w.Equals ⊳ (IsLiteral value ⊳ IsTerminal w.Semicolon))) ts → Spells b.File w.Syntax span (node.Syntax span value) ts
  -- Import: `import [weak or public] P ;`
  is_import : {span : Span} {is_public : Bool} {path : Literal} {ts : List Lexeme}
      → (IsTerminal w.Import ⊳ (IsModifier is_public ⊳ (IsLiteral path ⊳ IsTerminal w.Semicolon))) ts → Spells b.File w.Import span (node.Import span is_public path) ts
  -- Package: `package full ;`, where the name is the whole of `full`
  is_package : {span name : Span} {components : List Span} {ts : List Lexeme}
      → (IsTerminal w.Package ⊳ (IsAt (IsFull components) name ⊳ IsTerminal w.Semicolon)) ts → Spells b.File w.Package span (node.Package span name components) ts
  -- OptionDef: `option N = C ;`, where the name is the whole of N and the value the whole of C
  is_option : {body : Body} {span name value : Span} {ts : List Lexeme}
      → IsTrue (has_options body) → (IsTerminal w.Option ⊳ (IsAt IsOptionName name ⊳ (IsTerminal w.Equals ⊳ (IsAt IsContent value ⊳ IsTerminal w.Semicolon)))) ts → Spells body w.Option span (node.OptionDef span name value) ts
  -- Field: as many labels as stand there, at most two, type, Ident, `=`, Int, `[ C ]` or nothing, `;`
  is_field : {body : Body} {first : Terminal} {span : Span} {f : Field} {ts : List Lexeme}
      → IsTrue (may_be_field body first) → f.span ≡ span → IsLabelled f.labels (IsType f.type_name ⊳ (IsIdent f.name ⊳ (IsTerminal w.Equals ⊳ (IsWordAt w.Int f.number ⊳ IsFieldEnd)))) ts → Spells body first span (node.Field f) ts
  -- MapField (message body only): labels as above, `map < type , type > Ident = Int`, `[ C ]` or nothing, `;`
  is_map_field : {first : Terminal} {span : Span} {f : MapField} {ts : List Lexeme}
      → IsTrue (may_be_field b.Message first) → f.span ≡ span
      → IsLabelled f.labels (IsTerminal w.Map ⊳ (IsTerminal w.Less ⊳ (IsType f.key ⊳ (IsTerminal w.Comma ⊳ (IsType f.value ⊳ (IsTerminal w.Greater ⊳ (IsIdent f.name ⊳ (IsTerminal w.Equals ⊳ (IsWordAt w.Int f.number ⊳ IsFieldEnd))))))))) ts
      → Spells b.Message first span (node.MapField f) ts
  -- Value: Ident `=` `[-]` Int, `[ C ]` or nothing, `;`
  is_value : {first : Terminal} {span name : Span} {n : Number} {ts : List Lexeme}
      → is_listed_in_enum first ≡ false → (IsIdent name ⊳ (IsTerminal w.Equals ⊳ (IsNumber true n ⊳ IsFieldEnd))) ts → Spells b.Enum first span (node.Value span name n) ts
  -- Reserved: `reserved`, ranges or names, `;`, where a number may have a minus in an enum
  is_reserved_in_message : {span : Span} {list : ReservedList} {ts : List Lexeme}
      → (IsTerminal w.Reserved ⊳ (IsReservedList false list ⊳ IsTerminal w.Semicolon)) ts → Spells b.Message w.Reserved span (node.Reserved span list) ts
  is_reserved_in_enum : {span : Span} {list : ReservedList} {ts : List Lexeme}
      → (IsTerminal w.Reserved ⊳ (IsReservedList true list ⊳ IsTerminal w.Semicolon)) ts → Spells b.Enum w.Reserved span (node.Reserved span list) ts
  -- Rpc: `rpc Ident ( [stream] type ) returns ( [stream] type ) ;`
  is_rpc : {span name : Span} {request response : TypeName} {ts : List Lexeme}
      → (IsHeader (header.Rpc name request response) ⊳ IsTerminal w.Semicolon) ts → Spells b.Service w.Rpc span (node.Rpc span name request response []) ts
  -- Empty: `;`
  is_empty : {body : Body} {span : Span} {ts : List Lexeme} → IsTerminal w.Semicolon ts → Spells body w.Semicolon span (node.Empty span) ts

-- ---- laws

-- what is read as a header is spelled so, and its `{` stands behind it
abbrev pub HeadersAreSpelled : Type 0
HeadersAreSpelled = (item : List Lexeme) (head : Header) (rest : List Lexeme) → header_and_rest item ≡ Some (head, rest) → (front : List Lexeme) × (item ≡ front ++ rest) × (IsHeader head ⊳ IsTerminal w.OpenBrace) front

-- what is read as a statement is spelled so, and its span is that of its tokens
abbrev pub StatementsAreSpelled : Type 0
StatementsAreSpelled = (body : Body) (t : Lexeme) (ts : List Lexeme) (n : Node) → statement body (t ∷ ts) ≡ Some n → Spells body t.terminal (span_of (t ∷ ts)) n (t ∷ ts)
