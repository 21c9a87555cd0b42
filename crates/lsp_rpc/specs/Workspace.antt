-- The diagnostics of a workspace on the wire: Language Server Protocol 3.17, "Workspace Diagnostic Report". The keys of
-- each object stand in the order of their bytes.
use Rattle.std.specs.Prelude.{ℕ, ℤ, List, Option, Some, None, map, codes, string_bytes}
use Rattle.serde_json.specs.Data.{Data, null, number, string, array, object, member, no_members}
use Rattle.serde_json.specs.Find.{of_integer}
use Rattle.serde_json.specs.View.{items_of}
use Rattle.lsp_rpc.specs.Diagnostic.{DiagnosticData, diagnostic_value, diagnostic_view}
use Rattle.lsp_rpc.specs.declared.workspace.DocumentReport.{DocumentReport}

-- what is wrong in a document, its URI, and its version where it is open
pub record DocumentData : Type 0 where
  pub diagnostics : List DiagnosticData
  pub uri : List ℕ
  pub version : Option ℤ

abbrev pub version_value : Option ℤ → Data
version_value None = null
version_value (Some version) = number (of_integer version)

abbrev pub document_value : DocumentData → Data
document_value r =
    object (member (codes "items") (array (items_of (map diagnostic_value r.diagnostics)))
    (member (codes "kind") (string (codes "full"))
    (member (codes "uri") (string r.uri)
    (member (codes "version") (version_value r.version) no_members))))

-- the reports of all documents, in order
abbrev pub workspace_value : List DocumentData → Data
workspace_value rs = object (member (codes "items") (array (items_of (map document_value rs))) no_members)

-- ---- the Rust type beside this

abbrev pub document_view : DocumentReport → DocumentData
document_view r = record { diagnostics = map diagnostic_view r.diagnostics.items; uri = string_bytes r.uri; version = r.version }
