-- Diagnostics on the wire: Language Server Protocol 3.17, "Diagnostic" and "Document Diagnostic
-- Report". The keys of each object stand in the order of their bytes.
use Rattle.std.specs.Prelude.{ℕ, List, map, codes}
use Rattle.serde_json.specs.Data.{Data, number, unsigned, string, array, object, member, no_members}
use Rattle.serde_json.specs.View.{items_of}
use Rattle.doc_text.specs.declared.position.Position.{Position}
use Rattle.doc_text.specs.declared.position.Range.{Range}
use Rattle.lsp_rpc.specs.declared.diagnostic.Severity.{Severity}
use Rattle.lsp_rpc.specs.declared.diagnostic.Severity.TheVariants.{Error, Information}
use Rattle.lsp_rpc.specs.declared.diagnostic.Diagnostic.{Diagnostic}

abbrev pub position_value : Position → Data
position_value p =
    object (member (codes "character") (number (unsigned p.character))
    (member (codes "line") (number (unsigned p.line)) no_members))

abbrev pub range_value : Range → Data
range_value r =
    object (member (codes "end") (position_value r.end)
    (member (codes "start") (position_value r.start) no_members))

abbrev pub severity_number : Severity → ℕ
severity_number Error = 1
severity_number Information = 3

-- a diagnostic of a document
pub record DiagnosticData : Type 0 where
  pub range : Range
  pub severity : Severity
  pub code : ℕ
  pub message : List ℕ

abbrev pub diagnostic_value : DiagnosticData → Data
diagnostic_value d =
    object (member (codes "code") (number (unsigned d.code))
    (member (codes "message") (string d.message)
    (member (codes "range") (range_value d.range)
    (member (codes "severity") (number (unsigned (severity_number d.severity)))
    (member (codes "source") (string (codes "protols")) no_members)))))

-- all diagnostics of a document, in order
abbrev pub report_value : List DiagnosticData → Data
report_value ds =
    object (member (codes "items") (array (items_of (map diagnostic_value ds)))
    (member (codes "kind") (string (codes "full")) no_members))

-- ---- the Rust type beside this

abbrev pub diagnostic_view : Diagnostic → DiagnosticData
diagnostic_view d = record { range = d.range; severity = d.severity; code = d.code; message = d.message.now }
