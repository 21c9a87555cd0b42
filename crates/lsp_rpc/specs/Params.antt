-- The params of the methods. Members that are not named here are ignored.
use Rattle.std.specs.Prelude.{ℕ, ℤ, List, [], ◌∷◌, Option, Some, None, map, option_map, option_and_then, codes, string_bytes}
use Rattle.serde_json.specs.Data.{Data, Items, no_items, item}
use Rattle.serde_json.specs.Find.{get, as_array}
use Rattle.doc_text.specs.Edits.{ChangeData, change_view}
use Rattle.doc_text.specs.declared.position.Position.{Position}
use Rattle.doc_text.specs.declared.position.Range.{Range}
use Rattle.lsp_rpc.specs.Body.{member_or_null, text_member, integer_member, natural_member}
use Rattle.lsp_rpc.specs.declared.params.DidChangeParams.{DidChangeParams}
use Rattle.lsp_rpc.specs.declared.params.VersionedDocument.{VersionedDocument}
use Rattle.lsp_rpc.specs.declared.params.DidOpenParams.{DidOpenParams}

abbrev pub document_of : Data → Data
document_of params = member_or_null (codes "textDocument") params

-- `textDocument {uri}`, the document that a request or a notification is about
abbrev pub uri_of : Data → Option (List ℕ)
uri_of params = text_member (codes "uri") (document_of params)

-- `textDocument {uri, version, text}`, a document that the editor opened
pub record OpenedDocument : Type 0 where
  pub uri : List ℕ
  pub version : ℤ
  pub text : List ℕ

abbrev pub opened_in : Data → Option OpenedDocument
opened_in document =
    option_and_then (λ uri.
    option_and_then (λ version.
    option_map (λ text. record { uri = uri; version = version; text = text })
    (text_member (codes "text") document))
    (integer_member (codes "version") document))
    (text_member (codes "uri") document)

abbrev pub opened_of : Data → Option OpenedDocument
opened_of params = opened_in (document_of params)

abbrev pub opened_view : DidOpenParams → OpenedDocument
opened_view p = record { uri = string_bytes p.uri; version = p.version; text = string_bytes p.text }

-- ---- positions and ranges

abbrev pub position_in : Data → Option Position
position_in d =
    option_and_then (λ line.
    option_map (λ character. record { line = line; character = character })
    (natural_member (codes "character") d))
    (natural_member (codes "line") d)

abbrev pub range_in : Data → Option Range
range_in d =
    option_and_then (λ start.
    option_map (λ end. record { start = start; «end» = end })
    (position_in (member_or_null (codes "end") d)))
    (position_in (member_or_null (codes "start") d))

-- ---- changes

-- a member `range` may be missing; one that is there has to be a range
abbrev pub optional_range : Option Data → Option (Option Range)
optional_range None = Some None
optional_range (Some d) = option_map Some (range_in d)

abbrev pub change_in : Data → Option ChangeData
change_in d =
    option_and_then (λ range.
    option_map (λ text. record { range = range; text = text })
    (text_member (codes "text") d))
    (optional_range (get (codes "range") d))

-- where one of them is no change, they aren't changes
abbrev pub changes_in : Items → Option (List ChangeData)
changes_in no_items = Some []
changes_in (item d ds) = option_and_then (λ c. option_map (λ cs. c ∷ cs) (changes_in ds)) (change_in d)

-- `contentChanges`, the changes in order
abbrev pub changes_of : Data → Option (List ChangeData)
changes_of params = option_and_then changes_in (option_and_then as_array (get (codes "contentChanges") params))

-- `textDocument {uri, version}`
pub record VersionedData : Type 0 where
  pub uri : List ℕ
  pub version : ℤ

abbrev pub versioned_in : Data → Option VersionedData
versioned_in document =
    option_and_then (λ uri.
    option_map (λ version. record { uri = uri; version = version })
    (integer_member (codes "version") document))
    (text_member (codes "uri") document)

-- a document that the editor changed, with its changes in order
pub record ChangedDocument : Type 0 where
  pub document : VersionedData
  pub changes : List ChangeData

abbrev pub changed_of : Data → Option ChangedDocument
changed_of params =
    option_and_then (λ document.
    option_map (λ changes. record { document = document; changes = changes })
    (changes_of params))
    (versioned_in (document_of params))

abbrev pub versioned_view : VersionedDocument → VersionedData
versioned_view d = record { uri = string_bytes d.uri; version = d.version }

abbrev pub changed_view : DidChangeParams → ChangedDocument
changed_view p = record { document = versioned_view p.document; changes = map change_view p.changes.items }
