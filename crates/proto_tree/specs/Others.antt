-- How a text that isn't proto3 is read for what it declares. The items and forms are those of proto3, to which come words of proto2 and of the
-- editions.
--
-- proto2 has the label `required`, and groups: a label, `group Ident = Int`, and the body of a message. An edition has `export` or `local`
-- before `message` and `enum`. A group's label and these words say nothing of names, so they are left out. What else the two have, such as
-- `edition = "2023";`, `extensions 4 to 8;`, `reserved a, b;` and `import option "a.proto";`, has none of the forms, and declares nothing.
use Rattle.std.specs.Prelude.{ℕ, ◌≤◌, Bool, true, false, not, ◌||◌, ◌&&◌, List, [], ◌∷◌, map, slice_range, if◌then◌else◌, codes, unwrap_or}
use Rattle.std.specs.Map.{lookup}
use Rattle.std.specs.Str.{bytes_eq}
use Rattle.proto_lex.specs.Tokens.{tokens}
use Rattle.proto_tree.specs.declared.node.FileTree.{FileTree}
use Rattle.proto_tree.specs.declared.lexeme.Lexeme.{Lexeme}
use Rattle.proto_tree.specs.declared.lexeme.Body.TheVariants as b
use Rattle.proto_tree.specs.declared.lexeme.Terminal.{Terminal}
use Rattle.proto_tree.specs.declared.lexeme.Terminal.TheVariants as w
use Rattle.proto_tree.specs.Lexeme.{is, is_identifier, lexemes}
use Rattle.proto_tree.specs.Forms.{is_label}
use Rattle.proto_tree.specs.Read.{bad_tokens, body_tree, join, max_blocks}

-- ---- the words that are names to proto3

abbrev pub is_other_word : Terminal → Bool
is_other_word w.Group = true
is_other_word w.Visibility = true
is_other_word _ = false

-- as they are written
abbrev pub other_words : List (List ℕ × Terminal)
other_words = (codes "required", w.Optional) ∷ (codes "group", w.Group) ∷ (codes "export", w.Visibility) ∷ (codes "local", w.Visibility) ∷ []

-- the terminal that a name is
unfoldable pub other_word : List ℕ → Terminal
other_word name = unwrap_or (lookup (bytes_eq name) other_words) w.Name

-- the terminal that a token is, which is this one to proto3
abbrev pub other_terminal : Terminal → List ℕ → Terminal
other_terminal w.Name name = other_word name
other_terminal it name = it

abbrev pub other_lexeme : List ℕ → Lexeme → Lexeme
other_lexeme text t = record { terminal = other_terminal t.terminal (slice_range text t.span.start t.span.«end»); span = t.span }

-- the token lies in a text of this length
abbrev pub LiesIn : ℕ → Lexeme → Type 0
LiesIn len t = (t.span.start ≤ t.span.«end») × (t.span.«end» ≤ len)

-- ---- what is read of the tokens with these words

-- a group begins here, as far as its `=`
abbrev pub begins_group : List Lexeme → Bool
begins_group (t ∷ u ∷ v ∷ ts) = is w.Group t && (is_identifier u.terminal && is w.Equals v)
begins_group _ = false

-- a message or an enum with a name begins here
abbrev pub begins_named : List Lexeme → Bool
begins_named (t ∷ u ∷ ts) = (is w.Message t || is w.Enum t) && is_identifier u.terminal
begins_named _ = false

-- a token is left out, before these: the label of a group, or the visibility of a message or of an enum
abbrev pub is_left_out : Lexeme → List Lexeme → Bool
is_left_out t ts = (is_label t.terminal && begins_group ts) || (is w.Visibility t && begins_named ts)

-- the terminal that a token is read as, before these: a `group` that begins none is a name
abbrev pub read_terminal : Lexeme → List Lexeme → Terminal
read_terminal t ts = if is w.Group t && not (begins_group (t ∷ ts)) then w.Name else t.terminal

-- the tokens as they are read, without those that are left out
abbrev pub kept : List Lexeme → List Lexeme
kept [] = []
kept (t ∷ ts) = if is_left_out t ts then kept ts else record { terminal = read_terminal t ts; span = t.span } ∷ kept ts

-- what the grammar reads of a text
abbrev pub other_lexemes : List ℕ → List Lexeme
other_lexemes text = kept (map (other_lexeme text) (lexemes text (tokens text)))

-- the tree of a text that isn't proto3, and isn't too long
unfoldable pub other_tree : List ℕ → FileTree
other_tree text = join (record { nodes = []; faults = bad_tokens (tokens text) }) (body_tree max_blocks b.File (other_lexemes text))
