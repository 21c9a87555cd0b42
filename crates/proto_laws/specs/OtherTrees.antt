-- How a text that isn't proto3 is read for what it declares, as a relation.
--
-- proto2 has the label `required`, beside `optional` and `repeated`, and groups: a label, `group Ident = Int`, and the body of a message. An edition has
-- `export` or `local` before `message Ident` and `enum Ident`.
use Rattle.std.specs.Prelude.{◌≡◌, ◌⊎◌, ℕ, IsTrue, List, [], ◌∷◌, codes, slice_range}
use Rattle.proto_lex.specs.declared.token.Token.{Token}
use Rattle.proto_lex.specs.Tokens.{AreTokens}
use Rattle.proto_tree.specs.declared.lexeme.Body.TheVariants as b
use Rattle.proto_tree.specs.declared.lexeme.Lexeme.{Lexeme}
use Rattle.proto_tree.specs.declared.lexeme.Terminal.{Terminal}
use Rattle.proto_tree.specs.declared.lexeme.Terminal.TheVariants as w
use Rattle.proto_tree.specs.declared.node.FileTree.{FileTree}
use Rattle.proto_tree.specs.Forms.{is_label}
use Rattle.proto_tree.specs.Lexeme.{is_identifier, lexemes}
use Rattle.proto_tree.specs.Read.{bad_tokens, join, max_blocks}
use Rattle.proto_laws.specs.Trees.{ReadsBody}

-- ---- words

-- what a name is
pub data IsNamed (name : List ℕ) : Terminal → Type 0 where
  required : name ≡ codes "required" → IsNamed name w.Optional
  group : name ≡ codes "group" → IsNamed name w.Group
  export : name ≡ codes "export" → IsNamed name w.Visibility
  local : name ≡ codes "local" → IsNamed name w.Visibility
  no_word : ¬ (name ≡ codes "required") → ¬ (name ≡ codes "group") → ¬ (name ≡ codes "export") → ¬ (name ≡ codes "local") → IsNamed name w.Name

-- the token is this one, once the names of proto3 that are words are told from the others
pub data IsToken (text : List ℕ) (t : Lexeme) : Lexeme → Type 0 where
  a_name : {it : Terminal} → t.terminal ≡ w.Name → IsNamed (slice_range text t.span.start t.span.«end») it → IsToken text t (record { terminal = it; span = t.span })
  no_name : ¬ (t.terminal ≡ w.Name) → IsToken text t t

-- so are all
pub data AreTold (text : List ℕ) : List Lexeme → List Lexeme → Type 0 where
  none : AreTold text [] []
  one_more : {t u : Lexeme} {ts us : List Lexeme} → IsToken text t u → AreTold text ts us → AreTold text (t ∷ ts) (u ∷ us)

-- ---- groups, and what is visible

-- `group Ident =`
pub record BeginsGroup (ts : List Lexeme) : Type 0 where
  pub word : Lexeme
  pub name : Lexeme
  pub equals : Lexeme
  pub behind : List Lexeme
  pub tokens_are : ts ≡ word ∷ name ∷ equals ∷ behind
  pub word_is : word.terminal ≡ w.Group
  pub name_is : IsTrue (is_identifier name.terminal)
  pub equals_is : equals.terminal ≡ w.Equals

-- `message Ident` or `enum Ident`
pub record BeginsNamed (ts : List Lexeme) : Type 0 where
  pub word : Lexeme
  pub name : Lexeme
  pub behind : List Lexeme
  pub tokens_are : ts ≡ word ∷ name ∷ behind
  pub word_is : (word.terminal ≡ w.Message) ⊎ (word.terminal ≡ w.Enum)
  pub name_is : IsTrue (is_identifier name.terminal)

-- the token says nothing of names: the label of a group, or how visible a message or an enum is
abbrev pub SaysNothing : Lexeme → List Lexeme → Type 0
SaysNothing t ts = (IsTrue (is_label t.terminal) × BeginsGroup ts) ⊎ ((t.terminal ≡ w.Visibility) × BeginsNamed ts)

-- the tokens that are read, as what they are read
pub data AreRead : List Lexeme → List Lexeme → Type 0 where
  no_more : AreRead [] []
  left_out : {t : Lexeme} {ts us : List Lexeme} → SaysNothing t ts → AreRead ts us → AreRead (t ∷ ts) us
  -- a `group` that begins none
  as_name : {t : Lexeme} {ts us : List Lexeme} → t.terminal ≡ w.Group → ¬ BeginsGroup (t ∷ ts) → AreRead ts us → AreRead (t ∷ ts) (record { terminal = w.Name; span = t.span } ∷ us)
  as_it_is : {t : Lexeme} {ts us : List Lexeme} → ¬ SaysNothing t ts → (t.terminal ≡ w.Group → BeginsGroup (t ∷ ts)) → AreRead ts us → AreRead (t ∷ ts) (t ∷ us)

-- ---- texts

-- the tree of a text that isn't proto3: what is wrong with its tokens, and the tree of its statements
pub record IsOtherTreeOf (text : List ℕ) (tree : FileTree) : Type 0 where
  pub tokens : List Token
  pub told : List Lexeme
  pub read : List Lexeme
  pub its : FileTree
  pub tokens_are : AreTokens text tokens
  pub told_are : AreTold text (lexemes text tokens) told
  pub read_are : AreRead told read
  pub body : ReadsBody max_blocks b.File read its
  pub tree_is : tree ≡ join (record { nodes = []; faults = bad_tokens tokens }) its
