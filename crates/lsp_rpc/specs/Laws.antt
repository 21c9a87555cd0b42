-- What the definitions of messages and replies come to, in the words of the standards.
use Rattle.std.specs.Prelude.{◌≡◌, ◌≢◌, ◌↔◌, ◌⊎◌, true, false, ℕ, ℤ, List, [], ◌∷◌, ◌++◌, Option, Some, None, map, codes, decimal, bytes_eq}
use Rattle.std.specs.Fmt.{signed_decimal}
use Rattle.std.specs.List.{All, fold, filter, join_with_byte}
use Rattle.std.specs.List.Sorted.{IsStrictlySortedBy}
use Rattle.std.specs.Cmp.Lexicographic.{slice_cmp}
use Rattle.std.specs.Map.{keys_of}
use Rattle.std.specs.Ordering.{nat_cmp}
use Rattle.json.specs.Print.{quoted}
use Rattle.serde_json.specs.Data.{Data, Items, null, string, array}
use Rattle.serde_json.specs.Find.{get}
use Rattle.serde_json.specs.Written.{compact_text}
use Rattle.lsp_rpc.specs.Body.{json_of, has}
use Rattle.lsp_rpc.specs.Encoding.{encoding_name}
use Rattle.lsp_rpc.specs.Message.{IdData, message_of, parse_error, invalid_request, request, notification, id_of, method_of, params_of, is_version_two, names_method}
use Rattle.lsp_rpc.specs.ClientCapabilities.{client_of, position_encodings}
use Rattle.lsp_rpc.specs.Reply.{id_value, id_or_null, result_reply, error_row, error_reply}
use Rattle.lsp_rpc.specs.Initialize.{initialize_result}
use Rattle.lsp_rpc.specs.Diagnostic.{DiagnosticData, range_value, severity_number, diagnostic_value, report_value}
use Rattle.lsp_rpc.specs.Workspace.{DocumentData, version_value, workspace_value}
use Rattle.lsp_rpc.specs.Notification.{publication_value}
use Rattle.lsp_rpc.specs.Location.{LocationData, locations_value}
use Rattle.lsp_rpc.specs.Symbol.{SymbolData, kind_number, symbols_value}
use Rattle.lsp_rpc.specs.WorkspaceEdit.{Changes, further, ranges_at, merged, workspace_edit_value}
use Rattle.doc_text.specs.declared.encoding.Encoding.{Encoding}
use Rattle.doc_text.specs.declared.encoding.Encoding.TheVariants.{Utf16}
use Rattle.doc_text.specs.declared.position.Position.{Position}
use Rattle.doc_text.specs.declared.position.Range.{Range}
use Rattle.lsp_rpc.specs.declared.method.Method.{Method}
use Rattle.lsp_rpc.specs.declared.error_code.ErrorCode.{ErrorCode}

-- ---- messages

abbrev pub OnlyJsonIsRead : Type 0
OnlyJsonIsRead = (body : List ℕ) → (message_of body ≡ parse_error) ↔ (json_of body ≡ None)

abbrev pub BatchesAreInvalid : Type 0
BatchesAreInvalid = (body : List ℕ) (calls : Items) → json_of body ≡ Some (array calls) → message_of body ≡ invalid_request None

-- a request is "2.0", names a method and has a good id, all under their own names
pub record IsRequest (d : Data) (i : IdData) (m : Option Method) (p : Data) : Type 0 where
  pub version : is_version_two d ≡ true
  pub named : names_method d ≡ true
  pub id : id_of d ≡ Some i
  pub method : method_of d ≡ m
  pub params : params_of d ≡ p

-- a body is taken as a request if its value is one, and only then
abbrev pub RequestsAreCalls : Type 0
RequestsAreCalls =
    (body : List ℕ) (id : IdData) (method : Option Method) (params : Data) → (message_of body ≡ request id method params)
    ↔ ((d : Data) × (json_of body ≡ Some d) × IsRequest d id method params)

-- a notification is "2.0", names a method and has no id, not even a bad one
pub record IsNotification (d : Data) (m : Option Method) (p : Data) : Type 0 where
  pub version : is_version_two d ≡ true
  pub named : names_method d ≡ true
  pub no_id : has (codes "id") d ≡ false
  pub method : method_of d ≡ m
  pub params : params_of d ≡ p

-- a body is taken as a notification if its value is one, and only then
abbrev pub NotificationsAreCalls : Type 0
NotificationsAreCalls =
    (body : List ℕ) (method : Option Method) (params : Data) → (message_of body ≡ notification method params)
    ↔ ((d : Data) × (json_of body ≡ Some d) × IsNotification d method params)

-- ---- what an editor can do

-- an entry that is the name of an encoding
abbrev pub NamesAnEncoding : Data → Type 0
NamesAnEncoding entry = (encoding : Encoding) × (entry ≡ string (encoding_name encoding))

abbrev pub NoneIsNamed : List Data → Type 0
NoneIsNamed entries = All (λ entry. ¬ NamesAnEncoding entry) entries

-- the encoding's name is an entry, and no entry before it is an encoding's name
pub record IsNamedFirst (entries : List Data) (encoding : Encoding) : Type 0 where
  pub before : List Data
  pub after : List Data
  pub listed : entries ≡ before ++ string (encoding_name encoding) ∷ after
  pub first : NoneIsNamed before

-- an editor's encoding is the one that its list names first, and UTF-16 if the list names none, and no other
abbrev pub TheFirstEncodingCounts : Type 0
TheFirstEncodingCounts =
    (params : Data) (encoding : Encoding)
    → ((client_of params).encoding ≡ encoding)
    ↔ (IsNamedFirst (position_encodings params) encoding ⊎ (NoneIsNamed (position_encodings params) × (encoding ≡ Utf16)))

-- a member `diagnostic` of the member `textDocument` of the member `capabilities`, which isn't `null`
pub record DeclaresDiagnostics (params : Data) : Type 0 where
  pub capabilities : Data
  pub document : Data
  pub diagnostic : Data
  pub of_params : get (codes "capabilities") params ≡ Some capabilities
  pub of_capabilities : get (codes "textDocument") capabilities ≡ Some document
  pub of_document : get (codes "diagnostic") document ≡ Some diagnostic
  pub value : diagnostic ≢ null

abbrev pub PullingIsDeclared : Type 0
PullingIsDeclared = (params : Data) → ((client_of params).pulls_diagnostics ≡ true) ↔ DeclaresDiagnostics params

-- ---- the texts of replies

abbrev pub ResultText : Type 0
ResultText =
    (id : IdData) (result : Data) → compact_text (result_reply id result)
    ≡ codes "{\"id\":" ++ compact_text (id_value id) ++ codes ",\"jsonrpc\":\"2.0\",\"result\":" ++ compact_text result ++ codes "}"

-- no message has a byte that is escaped
abbrev pub error_object_text : ErrorCode → List ℕ
error_object_text code =
    codes "{\"code\":" ++ signed_decimal (error_row code).0 ++ codes ",\"message\":\"" ++ (error_row code).1 ++ codes "\"}"

abbrev pub ErrorText : Type 0
ErrorText =
    (id : Option IdData) (code : ErrorCode) → compact_text (error_reply id code)
    ≡ codes "{\"error\":" ++ error_object_text code ++ codes ",\"id\":" ++ compact_text (id_or_null id) ++ codes ",\"jsonrpc\":\"2.0\"}"

abbrev pub InitializeText : Type 0
InitializeText =
    (encoding : Encoding) → compact_text (initialize_result encoding)
    ≡ codes "{\"capabilities\":{\"definitionProvider\":true,\"diagnosticProvider\":{\"interFileDependencies\":true,\"workspaceDiagnostics\":true},\"positionEncoding\":\"" ++ encoding_name encoding
    ++ codes "\",\"referencesProvider\":true,\"renameProvider\":true,\"textDocumentSync\":{\"change\":2,\"openClose\":true,\"save\":true},\"workspaceSymbolProvider\":true},\"serverInfo\":{\"name\":\"protols\",\"version\":\"1\"}}"

abbrev pub DiagnosticText : Type 0
DiagnosticText =
    (d : DiagnosticData) → compact_text (diagnostic_value d)
    ≡ codes "{\"code\":" ++ decimal d.code ++ codes ",\"message\":" ++ quoted d.message ++ codes ",\"range\":" ++ compact_text (range_value d.range)
    ++ codes ",\"severity\":" ++ decimal (severity_number d.severity) ++ codes ",\"source\":\"protols\"}"

-- the diagnostics' texts stand in order, with commas between them
abbrev pub ReportText : Type 0
ReportText =
    (ds : List DiagnosticData) → compact_text (report_value ds)
    ≡ codes "{\"items\":[" ++ join_with_byte 44 (map (λ d. compact_text (diagnostic_value d)) ds) ++ codes "],\"kind\":\"full\"}"

abbrev pub document_text : DocumentData → List ℕ
document_text r =
    codes "{\"items\":[" ++ join_with_byte 44 (map (λ d. compact_text (diagnostic_value d)) r.diagnostics) ++ codes "],\"kind\":\"full\",\"uri\":" ++ quoted r.uri
    ++ codes ",\"version\":" ++ compact_text (version_value r.version) ++ codes "}"

-- the reports' texts stand in order, with commas between them
abbrev pub WorkspaceText : Type 0
WorkspaceText = (rs : List DocumentData) → compact_text (workspace_value rs) ≡ codes "{\"items\":[" ++ join_with_byte 44 (map document_text rs) ++ codes "]}"

-- the version's member, if there is a version
abbrev pub version_text : Option ℤ → List ℕ
version_text None = []
version_text (Some version) = codes ",\"version\":" ++ signed_decimal version

-- the diagnostics' texts stand in order, with commas between them
abbrev pub PublicationText : Type 0
PublicationText =
    (r : DocumentData) → compact_text (publication_value r)
    ≡ codes "{\"jsonrpc\":\"2.0\",\"method\":\"textDocument/publishDiagnostics\",\"params\":{\"diagnostics\":["
    ++ join_with_byte 44 (map (λ d. compact_text (diagnostic_value d)) r.diagnostics) ++ codes "],\"uri\":" ++ quoted r.uri
    ++ version_text r.version ++ codes "}}"

-- ---- places and declarations

abbrev pub position_text : Position → List ℕ
position_text p = codes "{\"character\":" ++ decimal p.character ++ codes ",\"line\":" ++ decimal p.line ++ codes "}"

abbrev pub range_text : Range → List ℕ
range_text r = codes "{\"end\":" ++ position_text r.end ++ codes ",\"start\":" ++ position_text r.start ++ codes "}"

abbrev pub location_text : LocationData → List ℕ
location_text l = codes "{\"range\":" ++ range_text l.range ++ codes ",\"uri\":" ++ quoted l.uri ++ codes "}"

-- the places' texts stand in order, with commas between them
abbrev pub LocationsText : Type 0
LocationsText = (ls : List LocationData) → compact_text (locations_value ls) ≡ codes "[" ++ join_with_byte 44 (map location_text ls) ++ codes "]"

-- the member for the scope, unless that is empty
abbrev pub container_text : List ℕ → List ℕ
container_text [] = []
container_text (c ∷ cs) = codes "\"containerName\":" ++ quoted (c ∷ cs) ++ codes ","

abbrev pub symbol_text : SymbolData → List ℕ
symbol_text s =
    codes "{" ++ container_text s.container ++ codes "\"kind\":" ++ decimal (kind_number s.kind) ++ codes ",\"location\":" ++ location_text s.location
    ++ codes ",\"name\":" ++ quoted s.name ++ codes "}"

-- the declarations' texts stand in order, with commas between them
abbrev pub SymbolsText : Type 0
SymbolsText = (ss : List SymbolData) → compact_text (symbols_value ss) ≡ codes "[" ++ join_with_byte 44 (map symbol_text ss) ++ codes "]"

-- ---- edits

abbrev pub UrisStandOnce : Type 0
UrisStandOnce = (documents : Changes) → IsStrictlySortedBy (slice_cmp nat_cmp) (keys_of (merged documents))

-- a URI has the ranges of all documents that have it, in order, and no others; one that an earlier document has is left out
abbrev pub RangesAreKept : Type 0
RangesAreKept =
    (uri : List ℕ) (documents : Changes) → ranges_at uri (merged documents)
    ≡ fold (λ before d. before ++ further before d.1) [] (filter (λ d. bytes_eq uri d.0) documents)

abbrev pub edit_text : List ℕ → Range → List ℕ
edit_text text r = codes "{\"newText\":" ++ quoted text ++ codes ",\"range\":" ++ range_text r ++ codes "}"

abbrev pub change_text : List ℕ → List ℕ × List Range → List ℕ
change_text text c = quoted c.0 ++ codes ":[" ++ join_with_byte 44 (map (edit_text text) c.1) ++ codes "]"

-- the URIs stand in the order of bytes, and the edits of each in theirs, with commas between them
abbrev pub WorkspaceEditText : Type 0
WorkspaceEditText =
    (text : List ℕ) (documents : Changes) → compact_text (workspace_edit_value text documents)
    ≡ codes "{\"changes\":{" ++ join_with_byte 44 (map (change_text text) (merged documents)) ++ codes "}}"
