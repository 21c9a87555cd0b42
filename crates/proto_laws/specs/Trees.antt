-- The tree of a text as a relation: what its statements are read as.
use Rattle.std.specs.Prelude.{◌≡◌, ℕ, zero, suc, false, Bool, IsTrue, List, [], ◌∷◌, ◌++◌}
use Rattle.proto_lex.specs.declared.token.Token.{Token}
use Rattle.proto_lex.specs.Tokens.{AreTokens}
use Rattle.proto_tree.specs.declared.node.FileTree.{FileTree}
use Rattle.proto_tree.specs.declared.node.Header.{Header}
use Rattle.proto_tree.specs.declared.node.Header.TheVariants as header
use Rattle.proto_tree.specs.declared.node.Node.{Node}
use Rattle.proto_tree.specs.declared.node.SyntaxProblem.TheVariants.{NotUnderstood, TooDeep, Unfinished}
use Rattle.proto_tree.specs.declared.lexeme.Lexeme.{Lexeme}
use Rattle.proto_tree.specs.declared.lexeme.Body.{Body}
use Rattle.proto_tree.specs.declared.lexeme.Body.TheVariants as b
use Rattle.proto_tree.specs.declared.lexeme.Terminal.{Terminal}
use Rattle.proto_tree.specs.declared.lexeme.Terminal.TheVariants as w
use Rattle.proto_tree.specs.Lexeme.{lexemes}
use Rattle.proto_tree.specs.Cut.{AreItems, IsFirstItem, ends_in, has_block_words, is_finished, is_stray}
use Rattle.proto_tree.specs.Parts.{span_of}
use Rattle.proto_tree.specs.Forms.{block_node, body_of, opens}
use Rattle.proto_tree.specs.Grammar.{◌⊳◌, IsTerminal, IsHeader, Spells}
use Rattle.proto_tree.specs.Read.{bad, bad_tokens, empty_tree, is_nesting_word, join, max_blocks, one_node}

-- the terminal with which a header begins
abbrev pub first_terminal : Header → Terminal
first_terminal (header.Message name) = w.Message
first_terminal (header.Enum name) = w.Enum
first_terminal (header.Service name) = w.Service
first_terminal (header.Oneof name) = w.Oneof
first_terminal (header.Extend target) = w.Extend
first_terminal (header.Group name) = w.Group
first_terminal (header.Rpc name request response) = w.Rpc

-- the tokens begin with this header and its `{`, and these are behind them
abbrev pub BeginsWith : Header → List Lexeme → List Lexeme → Type 0
BeginsWith head behind item = (front : List Lexeme) × (item ≡ front ++ behind) × (IsHeader head ⊳ IsTerminal w.OpenBrace) front

-- The words whose header and `{` decide what an item is, where this many blocks may still open, one inside the other: those of
-- the blocks of the body, and at the limit those of all blocks that nest, whatever the body.
abbrev pub heads_block : ℕ → Body → Terminal → Bool
heads_block zero body it = is_nesting_word it
heads_block (suc blocks) body it = opens body it

-- it begins with no such header
abbrev pub HasNoHeader : ℕ → Body → List Lexeme → Type 0
HasNoHeader blocks body item = (head : Header) (behind : List Lexeme) → IsTrue (heads_block blocks body (first_terminal head)) → ¬ BeginsWith head behind item

-- its tokens spell no statement of the body
abbrev pub SpellsNone : Body → List Lexeme → Type 0
SpellsNone body item = (t : Lexeme) (ts : List Lexeme) (n : Node) → item ≡ t ∷ ts → ¬ Spells body t.terminal (span_of item) n item

mutual
  -- In a body, where this many blocks may still open one inside the other, an item of these tokens is read as this: a node, or
  -- what is wrong; of a block the node and what is wrong inside.
  pub data Reads : ℕ → Body → List Lexeme → FileTree → Type 0 where
    -- at the top a `}` that closes nothing (202)
    is_stray_brace : {blocks : ℕ} {body : Body} {item : List Lexeme} → IsTrue (is_stray body item) → Reads blocks body item (bad NotUnderstood item)
    -- neither a `;` nor the block's `}` ends it (204)
    is_unfinished : {blocks : ℕ} {body : Body} {item : List Lexeme} → is_stray body item ≡ false → is_finished body item ≡ false → Reads blocks body item (bad Unfinished item)
    -- a block past the limit (203)
    is_too_deep : {body : Body} {item : List Lexeme} (head : Header) (behind : List Lexeme) → IsTrue (is_finished body item) → IsTrue (is_nesting_word (first_terminal head)) → BeginsWith head behind item → Reads zero body item (bad TooDeep item)
    -- a block of the body: its header and `{`, the tokens of its own body, cut into items, and its `}`
    is_block : {blocks : ℕ} {body : Body} {item : List Lexeme} {its : FileTree} (head : Header) (inside : List Lexeme) (last : Lexeme) (items : List (List Lexeme)) → IsTrue (is_finished body item) → IsTrue (opens body (first_terminal head))
        → BeginsWith head (inside ++ last ∷ []) item → last.terminal ≡ w.CloseBrace → AreItems (body_of head) inside items → ReadsInTurn blocks (body_of head) items its
        → Reads (suc blocks) body item (record { nodes = block_node (span_of item) head its.nodes ∷ []; faults = its.faults })
    -- another statement of the body
    is_statement : {blocks : ℕ} {body : Body} {item : List Lexeme} {n : Node} (t : Lexeme) (ts : List Lexeme) → IsTrue (is_finished body item) → HasNoHeader blocks body item → item ≡ t ∷ ts → Spells body t.terminal (span_of item) n item → Reads blocks body item (one_node n)
    -- none of them (202)
    is_not_understood : {blocks : ℕ} {body : Body} {item : List Lexeme} → IsTrue (is_finished body item) → HasNoHeader blocks body item → SpellsNone body item → Reads blocks body item (bad NotUnderstood item)

  -- items of a body, one after the other
  pub data ReadsInTurn : ℕ → Body → List (List Lexeme) → FileTree → Type 0 where
    no_more : {blocks : ℕ} {body : Body} → ReadsInTurn blocks body [] empty_tree
    one_more : {blocks : ℕ} {body : Body} {item : List Lexeme} {more : List (List Lexeme)} {its others : FileTree} → Reads blocks body item its → ReadsInTurn blocks body more others → ReadsInTurn blocks body (item ∷ more) (join its others)

-- the tokens of a body, cut into items, have this tree
abbrev pub ReadsBody : ℕ → Body → List Lexeme → FileTree → Type 0
ReadsBody blocks body ts tree = (items : List (List Lexeme)) × AreItems body ts items × ReadsInTurn blocks body items tree

-- the tree of a text: what is wrong with its tokens, and the tree of its statements
abbrev pub IsTreeOf : List ℕ → FileTree → Type 0
IsTreeOf text tree = (ts : List Token) × (its : FileTree) × AreTokens text ts × ReadsBody max_blocks b.File (lexemes text ts) its × (tree ≡ join (record { nodes = []; faults = bad_tokens ts }) its)

-- a finished item that begins with a header and its `{` ends in `}`, in a body with block words
abbrev pub BlocksEnd : Type 0
BlocksEnd =
    (body : Body) (item rest : List Lexeme) (head : Header) (behind : List Lexeme) → IsTrue (has_block_words body) → IsFirstItem body item rest → IsTrue (is_finished body item) → BeginsWith head behind item → IsTrue (ends_in w.CloseBrace behind)
