-- The forms of statements, a case for each: the forms of each body, as docs/DEFINITIONS.md lists them. The first terminal
-- of an item and the body that it stands in choose the form.
--
-- In the forms, P is a plain string literal: one string or more, none with a backslash. N is the name of an option: a
-- part, then any number of `.` part, where a part is an identifier or a name in parentheses. C is what an option is set
-- to: one token or more, with brackets of each kind balanced and nested. `full` is Ident, then any number of `.` Ident,
-- and `type` is `[.] full`. `[ C ]` is a C between these two tokens; in other square brackets, as in `[stream]`, stands
-- what may be left out.
use Rattle.std.specs.Prelude.{Bool, true, false, ◌&&◌, List, [], ◌∷◌, Option, Some, None, if◌then◌else◌}
use Rattle.proto_tree.specs.declared.node.Span.{Span}
use Rattle.proto_tree.specs.declared.node.TypeName.{TypeName}
use Rattle.proto_tree.specs.declared.node.Literal.{Literal}
use Rattle.proto_tree.specs.declared.node.ReservedRange.{ReservedRange}
use Rattle.proto_tree.specs.declared.node.RangeEnd.{RangeEnd}
use Rattle.proto_tree.specs.declared.node.RangeEnd.TheVariants.{Same, Max}
use Rattle.proto_tree.specs.declared.node.RangeEnd.TheVariants as bound
use Rattle.proto_tree.specs.declared.node.ReservedList.{ReservedList}
use Rattle.proto_tree.specs.declared.node.ReservedList.TheVariants.{Ranges, Names}
use Rattle.proto_tree.specs.declared.node.Header.{Header}
use Rattle.proto_tree.specs.declared.node.Header.TheVariants as header
use Rattle.proto_tree.specs.declared.node.Node.{Node}
use Rattle.proto_tree.specs.declared.node.Node.TheVariants as node
use Rattle.proto_tree.specs.declared.lexeme.Lexeme.{Lexeme}
use Rattle.proto_tree.specs.declared.lexeme.Body.{Body}
use Rattle.proto_tree.specs.declared.lexeme.Body.TheVariants as b
use Rattle.proto_tree.specs.declared.lexeme.Terminal.{Terminal}
use Rattle.proto_tree.specs.declared.lexeme.Terminal.TheVariants as w
use Rattle.proto_tree.specs.Lexeme.{is}
use Rattle.proto_tree.specs.Cut.{begins, ends_in}
use Rattle.proto_tree.specs.Parts.{Reader, ◌>>=◌, ◌>>◌, pure, nothing, whole, terminal, identifier, eat, separated, full, between, last_of, span_of, type_name, literal, number, is_content, is_options_end, but_last, rest_if}

-- ---- fields

abbrev pub is_label : Terminal → Bool
is_label w.Repeated = true
is_label w.Optional = true
is_label _ = false

-- a label, if one stands here
unfoldable pub label : Reader (Option Span)
label [] = Some (None, [])
label (t ∷ ts) = if is_label t.terminal then Some (Some t.span, ts) else Some (None, t ∷ ts)

abbrev pub labels_given : Option Span → Option Span → List Span
labels_given None second = []
labels_given (Some s) None = s ∷ []
labels_given (Some s) (Some t) = s ∷ t ∷ []

-- zero to two labels: as many as stand there, at most two. A label is never taken for a type in their place.
unfoldable pub labels : Reader (List Span)
labels = do
  first ← label
  elim first [ None ↦ pure [] | Some s ↦ label >>= (λ second. pure (labels_given (Some s) second)) ]

-- the name, the number and the options: `name = 1 [..];`
abbrev pub numbered : Reader (Span × Span)
numbered = do
  name ← identifier
  terminal w.Equals
  at ← terminal w.Int
  rest_if is_options_end
  pure (name, at)

-- Field, behind its labels: type, Ident, `=`, Int, `[ C ]` or nothing, `;`
unfoldable pub plain_field : Span → List Span → Reader Node
plain_field span found = do
  its_type ← type_name
  end ← numbered
  pure (node.Field (record { span = span; labels = found; type_name = its_type; name = end.0; number = end.1 }))

-- MapField, behind its labels: `map < type , type > Ident = Int`, `[ C ]` or nothing, `;`. As the value's type a `map`
-- with nothing behind it is a name.
unfoldable pub map_field : Span → List Span → Reader Node
map_field span found = do
  terminal w.Map
  terminal w.Less
  key ← type_name
  terminal w.Comma
  value ← type_name
  terminal w.Greater
  end ← numbered
  pure (node.MapField (record { span = span; labels = found; key = key; value = value; name = end.0; number = end.1 }))

-- Field: zero to two labels, and the rest
unfoldable pub field : Span → Reader Node
field span = labels >>= plain_field span

-- `map` and `<`
abbrev pub begins_map : List Lexeme → Bool
begins_map (t ∷ u ∷ ts) = is w.Map t && is w.Less u
begins_map _ = false

-- in a message: MapField where `map <` follows the labels, and else Field
unfoldable pub field_or_map : Span → Reader Node
field_or_map span = labels >>= (λ found ts. if begins_map ts then map_field span found ts else plain_field span found ts)

-- ---- the other statements

-- Syntax: `syntax = P ;`, with P a plain string literal
unfoldable pub syntax_form : Span → Reader Node
syntax_form span = do
  terminal w.Syntax
  terminal w.Equals
  value ← literal
  terminal w.Semicolon
  pure (node.Syntax span value)

-- Import: `import [weak or public] P ;`
unfoldable pub import_form : Span → Reader Node
import_form span = do
  terminal w.Import
  weak ← eat w.Weak
  public ← if weak then pure false else eat w.Public
  path ← literal
  terminal w.Semicolon
  pure (node.Import span public path)

-- Package: `package full ;`, with full an Ident, then any number of `.` Ident
unfoldable pub package_form : Span → Reader Node
package_form span = do
  terminal w.Package
  components ← full
  terminal w.Semicolon
  elim components [ [] ↦ nothing | s ∷ ss ↦ pure (node.Package span (between s (last_of s ss)) (s ∷ ss)) ]

-- part of an option's name: Ident or `( [.] full )`
unfoldable pub option_part : Reader Span
option_part ts = if begins w.OpenParen ts then (terminal w.OpenParen >> (eat w.Dot >> (full >> terminal w.CloseParen))) ts else identifier ts

-- N: part, then any number of `.` part
abbrev pub option_parts : Reader (List Span)
option_parts = separated w.Dot option_part

-- C, up to the `;` that ends the item: one token or more, with brackets of each kind balanced and nested
unfoldable pub option_value : Reader Span
option_value ts = if ends_in w.Semicolon ts && is_content (but_last 1 ts) then Some (span_of (but_last 1 ts), []) else None

-- from an option's first token to the last of its parts
abbrev pub named_from : List Lexeme → List Span → Option Span
named_from [] parts = None
named_from (t ∷ ts) parts = Some (between t.span (last_of t.span parts))

-- OptionDef: `option N = C ;`
unfoldable pub option_form : Span → Reader Node
option_form span = terminal w.Option >> (λ ts. (do
  parts ← option_parts
  terminal w.Equals
  value ← option_value
  elim (named_from ts parts) [ None ↦ nothing | Some name ↦ pure (node.OptionDef span name value) ]) ts)

-- behind `to`: `max`, or a number
unfoldable pub range_end : Bool → Reader RangeEnd
range_end may_be_negative ts =
    if begins w.Max ts then (terminal w.Max >>= (λ s. pure (Max s))) ts else (number may_be_negative >>= (λ n. pure (bound.Number n))) ts

-- a range: a, `a to b` or `a to max`, with a and b Int, or `[-]` Int where a minus may stand
unfoldable pub range : Bool → Reader ReservedRange
range may_be_negative = do
  low ← number may_be_negative
  is_longer ← eat w.To
  high ← if is_longer then range_end may_be_negative else pure Same
  pure (record { low = low; high = high })

-- ranges joined by `,`
abbrev pub ranges : Bool → Reader (List ReservedRange)
ranges may_be_negative = separated w.Comma (range may_be_negative)

-- plain string literals joined by `,`
abbrev pub literals : Reader (List Literal)
literals = separated w.Comma literal

-- names where a plain string stands first, and else ranges
unfoldable pub reserved_list : Bool → Reader ReservedList
reserved_list may_be_negative ts =
    if begins w.PlainText ts then (literals >>= (λ names. pure (Names names))) ts else (ranges may_be_negative >>= (λ found. pure (Ranges found))) ts

-- Reserved: `reserved`, ranges or names, `;`
unfoldable pub reserved_form : Bool → Span → Reader Node
reserved_form may_be_negative span = do
  terminal w.Reserved
  list ← reserved_list may_be_negative
  terminal w.Semicolon
  pure (node.Reserved span list)

-- Value: Ident `=` `[-]` Int, `[ C ]` or nothing, `;`
unfoldable pub value_form : Span → Reader Node
value_form span = do
  name ← identifier
  terminal w.Equals
  value ← number true
  rest_if is_options_end
  pure (node.Value span name value)

-- Empty: `;`
unfoldable pub empty_form : Span → Reader Node
empty_form span = terminal w.Semicolon >> pure (node.Empty span)

-- ---- what stands before the braces of a block

-- the terminal and Ident, of a message, an enum, a service or a oneof
abbrev pub block_name : Terminal → Reader Span
block_name it = terminal it >> identifier

-- `extend type`, with type = `[.] full`
unfoldable pub extend_header : Reader Header
extend_header = terminal w.Extend >> (type_name >>= (λ target. pure (header.Extend target)))

-- `group Ident = Int`: a message that is a field as well, which proto3 doesn't have
unfoldable pub group_header : Reader Header
group_header = do
  terminal w.Group
  name ← identifier
  terminal w.Equals
  terminal w.Int
  pure (header.Group name)

-- `( [stream] type )`; a `stream` behind the parenthesis is always the flag
unfoldable pub in_parentheses : Reader TypeName
in_parentheses = do
  terminal w.OpenParen
  eat w.Stream
  its_type ← type_name
  terminal w.CloseParen
  pure its_type

-- `rpc Ident ( [stream] type ) returns ( [stream] type )`
unfoldable pub rpc_header : Reader Header
rpc_header = do
  terminal w.Rpc
  name ← identifier
  request ← in_parentheses
  terminal w.Returns
  response ← in_parentheses
  pure (header.Rpc name request response)

-- a header that begins with this terminal
abbrev pub header_form : Terminal → Reader Header
header_form w.Message = block_name w.Message >>= (λ name. pure (header.Message name))
header_form w.Enum = block_name w.Enum >>= (λ name. pure (header.Enum name))
header_form w.Service = block_name w.Service >>= (λ name. pure (header.Service name))
header_form w.Oneof = block_name w.Oneof >>= (λ name. pure (header.Oneof name))
header_form w.Extend = extend_header
header_form w.Group = group_header
header_form w.Rpc = rpc_header
header_form _ = nothing

-- the node of an rpc without a block
abbrev pub rpc_of : Span → Header → Reader Node
rpc_of span (header.Rpc name request response) = pure (node.Rpc span name request response [])
rpc_of span _ = nothing

-- Rpc without a block: its header and `;`
unfoldable pub rpc_form : Span → Reader Node
rpc_form span = rpc_header >>= (λ head. terminal w.Semicolon >> rpc_of span head)

-- ---- the forms of each body

-- In each body the first terminal decides the form; where one of the body's forms begins with that terminal, no other form is
-- tried. Blocks are read elsewhere, so that the words of blocks have no form here; but a `group` that opens none is a name.

-- file: `syntax`, `import`, `package`, `option`, `;`, and the blocks `message`, `enum`, `service`, `extend`
abbrev pub file_form : Terminal → Span → Reader Node
file_form w.Syntax = syntax_form
file_form w.Import = import_form
file_form w.Package = package_form
file_form w.Option = option_form
file_form w.Semicolon = empty_form
file_form _ = λ span. nothing

-- message: `option`, `reserved`, `;`, the blocks `message`, `enum`, `extend`, `oneof`, `group`, and else map field or field
abbrev pub message_form : Terminal → Span → Reader Node
message_form w.Message = λ span. nothing
message_form w.Enum = λ span. nothing
message_form w.Extend = λ span. nothing
message_form w.Oneof = λ span. nothing
message_form w.Option = option_form
message_form w.Reserved = reserved_form false
message_form w.Semicolon = empty_form
message_form _ = field_or_map

-- oneof: `option`, `;`, the block `group`, and else field
abbrev pub oneof_form : Terminal → Span → Reader Node
oneof_form w.Option = option_form
oneof_form w.Semicolon = empty_form
oneof_form _ = field

-- extend: `;`, the block `group`, and else field
abbrev pub extend_form : Terminal → Span → Reader Node
extend_form w.Semicolon = empty_form
extend_form _ = field

-- enum: `option`, `reserved`, `;`, and else value
abbrev pub enum_form : Terminal → Span → Reader Node
enum_form w.Option = option_form
enum_form w.Reserved = reserved_form true
enum_form w.Semicolon = empty_form
enum_form _ = value_form

-- service: `option`, `;`, and `rpc` with a block or without
abbrev pub service_form : Terminal → Span → Reader Node
service_form w.Option = option_form
service_form w.Rpc = rpc_form
service_form w.Semicolon = empty_form
service_form _ = λ span. nothing

-- the block of an rpc: `option`, `;`
abbrev pub rpc_body_form : Terminal → Span → Reader Node
rpc_body_form w.Option = option_form
rpc_body_form w.Semicolon = empty_form
rpc_body_form _ = λ span. nothing

-- the form of a statement in this body that begins with this terminal
abbrev pub form : Body → Terminal → Span → Reader Node
form b.File = file_form
form b.Message = message_form
form b.Oneof = oneof_form
form b.Extend = extend_form
form b.Enum = enum_form
form b.Service = service_form
form b.Rpc = rpc_body_form

-- the node of an item that is no block
unfoldable pub statement : Body → List Lexeme → Option Node
statement body [] = None
statement body (t ∷ ts) = whole (form body t.terminal (span_of (t ∷ ts))) (t ∷ ts)

-- ---- blocks

abbrev pub opens_in_file : Terminal → Bool
opens_in_file w.Message = true
opens_in_file w.Enum = true
opens_in_file w.Service = true
opens_in_file w.Extend = true
opens_in_file _ = false

abbrev pub opens_in_message : Terminal → Bool
opens_in_message w.Message = true
opens_in_message w.Enum = true
opens_in_message w.Extend = true
opens_in_message w.Oneof = true
opens_in_message w.Group = true
opens_in_message _ = false

-- in a oneof and in an `extend` block a group alone
abbrev pub opens_among_fields : Terminal → Bool
opens_among_fields w.Group = true
opens_among_fields _ = false

abbrev pub opens_in_service : Terminal → Bool
opens_in_service w.Rpc = true
opens_in_service _ = false

-- whether a block of this terminal may stand in the body
abbrev pub opens : Body → Terminal → Bool
opens b.File = opens_in_file
opens b.Message = opens_in_message
opens b.Oneof = opens_among_fields
opens b.Extend = opens_among_fields
opens b.Service = opens_in_service
opens _ = λ it. false

-- a header and its `{`
unfoldable pub header_and_brace : Reader Header
header_and_brace [] = None
header_and_brace (t ∷ ts) = (header_form t.terminal >>= (λ head. terminal w.OpenBrace >> pure head)) (t ∷ ts)

-- a header, and the tokens behind its `{`
abbrev pub header_and_rest : List Lexeme → Option (Header × List Lexeme)
header_and_rest = header_and_brace

-- the body between the braces of a block with this header
abbrev pub body_of : Header → Body
body_of (header.Message name) = b.Message
body_of (header.Enum name) = b.Enum
body_of (header.Service name) = b.Service
body_of (header.Oneof name) = b.Oneof
body_of (header.Extend target) = b.Extend
body_of (header.Group name) = b.Message
body_of (header.Rpc name request response) = b.Rpc

-- the node of a block with this span and this header, with the nodes of its body
abbrev pub block_node : Span → Header → List Node → Node
block_node span (header.Message name) nodes = node.Message span name nodes
block_node span (header.Enum name) nodes = node.EnumDef span name nodes
block_node span (header.Service name) nodes = node.Service span name nodes
block_node span (header.Oneof name) nodes = node.Oneof span name nodes
block_node span (header.Extend target) nodes = node.Extend span target nodes
block_node span (header.Group name) nodes = node.Message span name nodes
block_node span (header.Rpc name request response) nodes = node.Rpc span name request response nodes
