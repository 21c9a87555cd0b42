-- Edits of documents on the wire: Language Server Protocol 3.17, "WorkspaceEdit" and "TextEdit". The keys of each object stand
-- in the order of their bytes.
use Rattle.std.specs.Prelude.{ℕ, ◌==◌, ◌&&◌, not, Bool, List, [], ◌∷◌, ◌++◌, filter, map, unwrap_or, codes, bytes_eq, String, Vec, string_bytes}
use Rattle.std.specs.BTreeMap.{insert_entry}
use Rattle.std.specs.Cmp.Lexicographic.{slice_cmp}
use Rattle.std.specs.List.{fold, list_any}
use Rattle.std.specs.Map.{lookup, remove_entry}
use Rattle.std.specs.Ordering.{nat_cmp}
use Rattle.std.specs.declared.alloc.Global.{Global}
use Rattle.json.specs.Token.{Token}
use Rattle.json.specs.Tree.{json_tokens}
use Rattle.serde_json.specs.Data.{Data, Members, string, array, object, member, no_members}
use Rattle.serde_json.specs.View.{items_of}
use Rattle.serde_json.specs.Written.{outline}
use Rattle.doc_text.specs.declared.position.Position.{Position}
use Rattle.doc_text.specs.declared.position.Range.{Range}
use Rattle.lsp_rpc.specs.Diagnostic.{range_value}
use Rattle.lsp_rpc.specs.declared.location.DocumentRanges.{DocumentRanges}

-- ranges of documents, beside the documents' URIs
abbrev pub Changes : Type 0
Changes = List (List ℕ × List Range)

-- the ranges that a URI has
abbrev pub ranges_at : List ℕ → Changes → List Range
ranges_at uri changes = unwrap_or (lookup (bytes_eq uri) changes) []

abbrev pub is_position : Position → Position → Bool
is_position p q = (p.line == q.line) && (p.character == q.character)

abbrev pub is_range : Range → Range → Bool
is_range r s = is_position r.start s.start && is_position r.«end» s.«end»

-- the ranges that aren't among those before
abbrev pub further : List Range → List Range → List Range
further before more = filter (λ r. not (list_any (is_range r) before)) more

-- more ranges for a URI, behind those that it has, but for those that it has; a new URI goes to its place in the order of bytes
abbrev pub with_ranges : Changes → List ℕ × List Range → Changes
with_ranges changes more =
    let before = ranges_at more.0 changes in
    insert_entry (slice_cmp nat_cmp) (remove_entry (bytes_eq more.0) changes) more.0 (before ++ further before more.1)

-- each URI once, in the order of bytes, with the ranges of all documents that have it
abbrev pub merged : Changes → Changes
merged documents = fold with_ranges [] documents

-- a range, in whose place the text is to stand
abbrev pub edit_value : List ℕ → Range → Data
edit_value text r =
    object (member (codes "newText") (string text)
    (member (codes "range") (range_value r) no_members))

abbrev pub edits_value : List ℕ → List Range → Data
edits_value text ranges = array (items_of (map (edit_value text) ranges))

abbrev pub changes_members : List ℕ → Changes → Members
changes_members text [] = no_members
changes_members text (c ∷ cs) = member c.0 (edits_value text c.1) (changes_members text cs)

-- the edits of all documents, whose ranges get one text
abbrev pub workspace_edit_value : List ℕ → Changes → Data
workspace_edit_value text documents =
    object (member (codes "changes") (object (changes_members text (merged documents))) no_members)

-- the tokens of a member, for private clauses
abbrev pub change_tokens : List ℕ → List ℕ × List Range → List Token
change_tokens text c = Token.key c.0 ∷ json_tokens (outline (edits_value text c.1))

-- ---- the Rust types beside these

abbrev pub document_ranges : DocumentRanges → List ℕ × List Range
document_ranges d = (string_bytes d.uri, d.ranges.items)

abbrev pub changes_view : List (String Global × Vec Range Global) → Changes
changes_view es = map (λ e. (string_bytes e.0, e.1.items)) es
