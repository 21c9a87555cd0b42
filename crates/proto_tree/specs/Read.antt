-- The tree of a text.
use Rattle.std.specs.Prelude.{ℕ, zero, suc, Bool, true, false, ◌&&◌, List, [], ◌∷◌, ◌++◌, length, nat_lt, Option, Some, None, if◌then◌else◌}
use Rattle.proto_lex.specs.declared.token.Token.{Token}
use Rattle.proto_lex.specs.declared.token.Kind.{Kind}
use Rattle.proto_lex.specs.declared.token.Kind.TheVariants as k
use Rattle.proto_lex.specs.Tokens.{tokens}
use Rattle.proto_tree.specs.declared.node.SyntaxProblem.{SyntaxProblem}
use Rattle.proto_tree.specs.declared.node.SyntaxProblem.TheVariants.{BadToken, NotUnderstood, TooDeep, Unfinished}
use Rattle.proto_tree.specs.declared.node.Fault.{Fault}
use Rattle.proto_tree.specs.declared.node.FileTree.{FileTree}
use Rattle.proto_tree.specs.declared.node.Header.{Header}
use Rattle.proto_tree.specs.declared.node.Node.{Node}
use Rattle.proto_tree.specs.declared.lexeme.Lexeme.{Lexeme}
use Rattle.proto_tree.specs.declared.lexeme.Body.{Body}
use Rattle.proto_tree.specs.declared.lexeme.Body.TheVariants as b
use Rattle.proto_tree.specs.declared.lexeme.Terminal.{Terminal}
use Rattle.proto_tree.specs.declared.lexeme.Terminal.TheVariants as w
use Rattle.proto_tree.specs.Lexeme.{lexemes, span_of_token}
use Rattle.proto_tree.specs.Cut.{items, is_stray, is_finished, ends_in}
use Rattle.proto_tree.specs.Parts.{span_of, but_last}
use Rattle.proto_tree.specs.Forms.{statement, opens, header_and_rest, body_of, block_node}

abbrev pub empty_tree : FileTree
empty_tree = record { nodes = []; faults = [] }

abbrev pub join : FileTree → FileTree → FileTree
join s t = record { nodes = s.nodes ++ t.nodes; faults = s.faults ++ t.faults }

abbrev pub one_node : Node → FileTree
one_node n = record { nodes = n ∷ []; faults = [] }

-- a bad item gives one fault over its whole span, and no node
abbrev pub bad : SyntaxProblem → List Lexeme → FileTree
bad problem item = record { nodes = []; faults = record { problem = problem; span = span_of item } ∷ [] }

-- what may nest in a message
abbrev pub is_nesting_word : Terminal → Bool
is_nesting_word w.Message = true
is_nesting_word w.Enum = true
is_nesting_word w.Oneof = true
is_nesting_word w.Extend = true
is_nesting_word w.Group = true
is_nesting_word _ = false

abbrev pub is_some_header : Option (Header × List Lexeme) → Bool
is_some_header None = false
is_some_header (Some p) = true

-- the tokens up to the first `{` read as the header of a message, an enum, a oneof, an extend or a group
abbrev pub nests : List Lexeme → Bool
nests [] = false
nests (t ∷ ts) = is_nesting_word t.terminal && is_some_header (header_and_rest (t ∷ ts))

-- ---- one item

abbrev pub statement_tree : List Lexeme → Option Node → FileTree
statement_tree item None = bad NotUnderstood item
statement_tree item (Some n) = one_node n

-- A block with its body read: the node, and the faults inside. An item that the cut makes never comes to the last
-- `else`: with a block's word in front it ends with the `}` that returns to depth 0, so its last token is a `}`.
abbrev pub block_tree : (Body → List Lexeme → FileTree) → List Lexeme → Header → List Lexeme → FileTree
block_tree inner item head ts =
    if ends_in w.CloseBrace ts then (let t = inner (body_of head) (but_last 1 ts) in record { nodes = block_node (span_of item) head t.nodes ∷ []; faults = t.faults })
    else bad NotUnderstood item

abbrev pub opened_tree : (Body → List Lexeme → FileTree) → Body → List Lexeme → Option (Header × List Lexeme) → FileTree
opened_tree inner body item None = statement_tree item (statement body item)
opened_tree inner body item (Some p) = block_tree inner item p.0 p.1

abbrev pub may_open : Body → List Lexeme → Bool
may_open body [] = false
may_open body (t ∷ ts) = opens body t.terminal

-- a finished item above the limit: a block of the body, or a statement
abbrev pub form_tree : (Body → List Lexeme → FileTree) → Body → List Lexeme → FileTree
form_tree inner body item = if may_open body item then opened_tree inner body item (header_and_rest item) else statement_tree item (statement body item)

-- A finished item inside as many blocks as are allowed: with the header of a message, an enum, a oneof, an extend or a group and
-- its `{` it is bad with 203, whatever its body. The blocks of service and rpc can't nest that deep: a service stands at
-- the top alone, and an rpc in a service.
abbrev pub deepest_tree : Body → List Lexeme → FileTree
deepest_tree body item = if nests item then bad TooDeep item else statement_tree item (statement body item)

-- One item. It is bad with 202 where it is a stray brace, with 204 where it is unfinished, and else as `finished` says.
abbrev pub item_tree : (List Lexeme → FileTree) → Body → List Lexeme → FileTree
item_tree finished body item =
    if is_stray body item then bad NotUnderstood item else (if is_finished body item then finished item else bad Unfinished item)

-- items in turn
abbrev pub all_items : (List Lexeme → FileTree) → List (List Lexeme) → FileTree
all_items read [] = empty_tree
all_items read (item ∷ more) = join (read item) (all_items read more)

-- ---- bodies

-- how many blocks may stand one inside the other
abbrev pub max_blocks : ℕ
max_blocks = 64

-- a body, cut into items
abbrev pub body_with : (List Lexeme → FileTree) → Body → List Lexeme → FileTree
body_with finished body ts = all_items (item_tree finished body) (items body ts)

-- The tree of a body in which this many blocks may still open, one inside the other.
unfoldable pub body_tree : ℕ → Body → List Lexeme → FileTree
body_tree zero body ts = body_with (deepest_tree body) body ts
body_tree (suc blocks) body ts = body_with (form_tree (body_tree blocks) body) body ts

-- a finished item there
unfoldable pub finished_tree : ℕ → Body → List Lexeme → FileTree
finished_tree zero body = deepest_tree body
finished_tree (suc blocks) body = form_tree (body_tree blocks) body

-- ---- texts

abbrev pub token_faults : Token → Kind → List Fault
token_faults t (k.Bad reason) = record { problem = BadToken reason; span = span_of_token t } ∷ []
token_faults t _ = []

-- first the bad tokens, then the bad items, each in their order
abbrev pub bad_tokens : List Token → List Fault
bad_tokens [] = []
bad_tokens (t ∷ ts) = token_faults t t.kind ++ bad_tokens ts

-- the tree of a text and of its tokens
unfoldable pub tree_of : List ℕ → List Token → FileTree
tree_of text ts = join (record { nodes = []; faults = bad_tokens ts }) (body_tree max_blocks b.File (lexemes text ts))

-- the tree of a text
unfoldable pub read : List ℕ → FileTree
read text = tree_of text (tokens text)

-- a text of over 16,777,216 bytes isn't analysed
abbrev pub is_too_long : List ℕ → Bool
is_too_long text = nat_lt 16777216 (length text)

-- the tree that counts: a text that is too long has that of the empty text
unfoldable pub value_tree : List ℕ → FileTree
value_tree text = if is_too_long text then read [] else read text
