-- The texts of replies, byte for byte.
use Rattle.std.proofs.Common.{◌≡◌, ℕ, ℤ, pos, negsuc, Option, Some, None, List, [], ◌∷◌, ◌++◌, true, false, map, refl, sym, ap, ap₂, ◌∙◌, append_assoc, codes}
use Rattle.std.specs.Fmt.{digits}
use Rattle.std.specs.List.{join_with_byte}
use Rattle.serde_json.specs.Data.{Data, Items, number, unsigned, string, array, object, member, no_members}
use Rattle.serde_json.specs.View.{items_of}
use Rattle.serde_json.specs.Written.{compact_text, items_text}
use Rattle.serde_json.proofs.OnLiterals.{serde_json_on_literals}
use Rattle.lsp_rpc.specs.Reply.{id_or_null, error_value}
use Rattle.lsp_rpc.specs.Diagnostic.{range_value, severity_number, diagnostic_value}
use Rattle.lsp_rpc.specs.Workspace.{DocumentData, version_value, document_value}
use Rattle.lsp_rpc.specs.Notification.{version_members, published_value}
use Rattle.lsp_rpc.specs.Laws.{ResultText, error_object_text, ErrorText, InitializeText, DiagnosticText, ReportText, document_text, WorkspaceText, version_text, PublicationText}
use Rattle.doc_text.specs.declared.encoding.Encoding.TheVariants.{Utf16, Utf8, Utf32}
use Rattle.lsp_rpc.specs.declared.error_code.ErrorCode.{ErrorCode}
use Rattle.lsp_rpc.specs.declared.error_code.ErrorCode.TheVariants.{ParseError, InvalidRequest, MethodNotFound, InvalidParams, ServerNotInitialized, RenameRefused}
use Rattle.lsp_rpc.specs.declared.error_code.RenameRefusal.TheVariants.{NoSymbol, NotRenamable, BadName, NameTaken, MeaningChanges}

pub result_text : ResultText
unfolding serde_json_on_literals
result_text id result = simp append_assoc

pub initialize_text : InitializeText
unfolding serde_json_on_literals digits
initialize_text Utf16 = refl
initialize_text Utf8 = refl
initialize_text Utf32 = refl

-- ---- errors

error_value_text : (code : ErrorCode) → compact_text (error_value code) ≡ error_object_text code
unfolding serde_json_on_literals digits
error_value_text ParseError = refl
error_value_text InvalidRequest = refl
error_value_text MethodNotFound = refl
error_value_text InvalidParams = refl
error_value_text ServerNotInitialized = refl
error_value_text (RenameRefused NoSymbol) = refl
error_value_text (RenameRefused NotRenamable) = refl
error_value_text (RenameRefused BadName) = refl
error_value_text (RenameRefused NameTaken) = refl
error_value_text (RenameRefused MeaningChanges) = refl

error_spelled : (id error : Data)
    → compact_text (object (member (codes "error") error (member (codes "id") id (member (codes "jsonrpc") (string (codes "2.0")) no_members))))
    ≡ codes "{\"error\":" ++ compact_text error ++ codes ",\"id\":" ++ compact_text id ++ codes ",\"jsonrpc\":\"2.0\"}"
unfolding serde_json_on_literals
error_spelled id error = simp append_assoc

pub error_text : ErrorText
error_text id code =
    error_spelled (id_or_null id) (error_value code) ∙ ap (λ s. codes "{\"error\":" ++ s ++ codes ",\"id\":" ++ compact_text (id_or_null id) ++ codes ",\"jsonrpc\":\"2.0\"}") (error_value_text code)

-- ---- diagnostics

diagnostic_spelled : (code message range severity : Data)
    → compact_text
    (object (member (codes "code") code (member (codes "message") message (member (codes "range") range (member (codes "severity") severity
    (member (codes "source") (string (codes "protols")) no_members))))))
    ≡ codes "{\"code\":" ++ compact_text code ++ codes ",\"message\":" ++ compact_text message ++ codes ",\"range\":" ++ compact_text range
    ++ codes ",\"severity\":" ++ compact_text severity ++ codes ",\"source\":\"protols\"}"
unfolding serde_json_on_literals
diagnostic_spelled code message range severity = simp append_assoc

pub diagnostic_text : DiagnosticText
diagnostic_text d = diagnostic_spelled (number (unsigned d.code)) (string d.message) (range_value d.range) (number (unsigned (severity_number d.severity)))

later_items : {T : Type 0} (f : T → Data) (x : List ℕ) (ds : List T)
    → x ++ items_text true (items_of (map f ds)) ≡ join_with_byte 44 (x ∷ map (λ d. compact_text (f d)) ds) ++ 93 ∷ []
later_items f x [] = refl
later_items f x (d ∷ ds) =
    ap (λ s. x ++ 44 ∷ s) (later_items f (compact_text (f d)) ds) ∙ sym (append_assoc x (44 ∷ join_with_byte 44 (compact_text (f d) ∷ map (λ e. compact_text (f e)) ds)) (93 ∷ []))

pub joined_items : {T : Type 0} (f : T → Data) (ds : List T) → items_text false (items_of (map f ds)) ≡ join_with_byte 44 (map (λ d. compact_text (f d)) ds) ++ 93 ∷ []
joined_items f [] = refl
joined_items f (d ∷ ds) = later_items f (compact_text (f d)) ds

report_spelled : (items : Items)
    → compact_text (object (member (codes "items") (array items) (member (codes "kind") (string (codes "full")) no_members)))
    ≡ codes "{\"items\":[" ++ (items_text false items ++ codes ",\"kind\":\"full\"}")
unfolding serde_json_on_literals
report_spelled items = refl

pub report_text : ReportText
report_text ds =
    let texts : List (List ℕ) = map (λ d. compact_text (diagnostic_value d)) ds in
    report_spelled (items_of (map diagnostic_value ds))
    ∙ ap (λ s. codes "{\"items\":[" ++ (s ++ codes ",\"kind\":\"full\"}")) (joined_items diagnostic_value ds)
    ∙ ap (λ s. codes "{\"items\":[" ++ s) (append_assoc (join_with_byte 44 texts) (93 ∷ []) (codes ",\"kind\":\"full\"}"))

-- ---- workspaces

document_spelled : (items : Items) (uri version : Data)
    → compact_text (object (member (codes "items") (array items) (member (codes "kind") (string (codes "full")) (member (codes "uri") uri (member (codes "version") version no_members)))))
    ≡ codes "{\"items\":[" ++ (items_text false items ++ (codes ",\"kind\":\"full\",\"uri\":" ++ compact_text uri ++ codes ",\"version\":" ++ compact_text version ++ codes "}"))
unfolding serde_json_on_literals
document_spelled items uri version = simp append_assoc

closed : (before items bracket kind uri key version end : List ℕ)
    → before ++ ((items ++ bracket) ++ (kind ++ uri ++ key ++ version ++ end)) ≡ before ++ items ++ (bracket ++ kind) ++ uri ++ key ++ version ++ end
closed before items bracket kind uri key version end = simp append_assoc

document_is : (r : DocumentData) → compact_text (document_value r) ≡ document_text r
document_is r =
    let texts : List (List ℕ) = map (λ d. compact_text (diagnostic_value d)) r.diagnostics in
    let kind : List ℕ = codes ",\"kind\":\"full\",\"uri\":" in
    let uri : List ℕ = compact_text (string r.uri) in
    let version : List ℕ = compact_text (version_value r.version) in
    document_spelled (items_of (map diagnostic_value r.diagnostics)) (string r.uri) (version_value r.version)
    ∙ ap (λ s. codes "{\"items\":[" ++ (s ++ (kind ++ uri ++ codes ",\"version\":" ++ version ++ codes "}"))) (joined_items diagnostic_value r.diagnostics)
    ∙ closed (codes "{\"items\":[") (join_with_byte 44 texts) (93 ∷ []) kind uri (codes ",\"version\":") version (codes "}")

documents_are : (rs : List DocumentData) → map (λ r. compact_text (document_value r)) rs ≡ map document_text rs
documents_are [] = refl
documents_are (r ∷ rs) = ap₂ ◌∷◌ (document_is r) (documents_are rs)

workspace_spelled : (items : Items) → compact_text (object (member (codes "items") (array items) no_members)) ≡ codes "{\"items\":[" ++ (items_text false items ++ codes "}")
unfolding serde_json_on_literals
workspace_spelled items = refl

pub workspace_text : WorkspaceText
workspace_text rs =
    let texts : List (List ℕ) = map (λ r. compact_text (document_value r)) rs in
    workspace_spelled (items_of (map document_value rs))
    ∙ ap (λ s. codes "{\"items\":[" ++ (s ++ codes "}")) (joined_items document_value rs)
    ∙ ap (λ s. codes "{\"items\":[" ++ s) (append_assoc (join_with_byte 44 texts) (93 ∷ []) (codes "}"))
    ∙ ap (λ ts. codes "{\"items\":[" ++ (join_with_byte 44 ts ++ codes "]}")) (documents_are rs)

-- ---- publications

call_spelled : (params : Data)
    → compact_text
    (object (member (codes "jsonrpc") (string (codes "2.0")) (member (codes "method") (string (codes "textDocument/publishDiagnostics")) (member (codes "params") params no_members))))
    ≡ codes "{\"jsonrpc\":\"2.0\",\"method\":\"textDocument/publishDiagnostics\",\"params\":" ++ compact_text params ++ codes "}"
unfolding serde_json_on_literals
call_spelled params = simp append_assoc

published_spelled : (items : Items) (uri : Data) (version : Option ℤ)
    → compact_text (object (member (codes "diagnostics") (array items) (member (codes "uri") uri (version_members version))))
    ≡ codes "{\"diagnostics\":[" ++ (items_text false items ++ (codes ",\"uri\":" ++ compact_text uri ++ version_text version ++ codes "}"))
unfolding serde_json_on_literals
published_spelled items uri None = simp append_assoc
published_spelled items uri (Some (pos n)) = simp append_assoc
published_spelled items uri (Some (negsuc n)) = simp append_assoc

joined_call : (before items bracket key uri version end : List ℕ)
    → before ++ ((items ++ bracket) ++ (key ++ uri ++ version ++ end)) ++ end ≡ before ++ items ++ (bracket ++ key) ++ uri ++ version ++ (end ++ end)
joined_call before items bracket key uri version end = simp append_assoc

pub publication_text : PublicationText
publication_text r =
    let texts : List (List ℕ) = map (λ d. compact_text (diagnostic_value d)) r.diagnostics in
    let call : List ℕ = codes "{\"jsonrpc\":\"2.0\",\"method\":\"textDocument/publishDiagnostics\",\"params\":" in
    let rest : List ℕ = codes ",\"uri\":" ++ compact_text (string r.uri) ++ version_text r.version ++ codes "}" in
    call_spelled (published_value r)
    ∙ ap (λ s. call ++ s ++ codes "}") (published_spelled (items_of (map diagnostic_value r.diagnostics)) (string r.uri) r.version)
    ∙ ap (λ s. call ++ (codes "{\"diagnostics\":[" ++ (s ++ rest)) ++ codes "}") (joined_items diagnostic_value r.diagnostics)
    ∙ joined_call (call ++ codes "{\"diagnostics\":[") (join_with_byte 44 texts) (93 ∷ []) (codes ",\"uri\":") (compact_text (string r.uri)) (version_text r.version) (codes "}")
