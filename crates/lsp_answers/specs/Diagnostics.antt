-- Diagnostics, as the editor gets them.
use Rattle.std.specs.Prelude.{ℕ, List, map, ◌==◌, if◌then◌else◌}
use Rattle.doc_text.specs.declared.encoding.Encoding.{Encoding}
use Rattle.doc_text.specs.declared.position.Range.{Range}
use Rattle.lsp_rpc.specs.Diagnostic.{DiagnosticData}
use Rattle.lsp_rpc.specs.declared.diagnostic.Severity.{Severity}
use Rattle.lsp_rpc.specs.declared.diagnostic.Severity.TheVariants as severity
use Rattle.proto_decls.specs.Problems as message
use Rattle.proto_decls.specs.declared.diagnostic.Diag.{Diag}
use Rattle.proto_decls.specs.declared.problem.Problem.{Problem}
use Rattle.lsp_answers.specs.Ranges.{range_of}

-- the protocol's name of a severity
abbrev pub severity_of : ℕ → Severity
severity_of number = if number == 3 then severity.Information else severity.Error

-- a message at a range
abbrev pub diagnostic_in : Range → Problem → DiagnosticData
diagnostic_in range m = record { range = range; severity = severity_of (message.severity m); code = message.code m; message = message.text m }

-- where a diagnostic stands in a text
abbrev pub diag_range : Encoding → List ℕ → Diag → Range
diag_range encoding text d = range_of encoding text d.start d.end

-- a diagnostic at its place in a text
abbrev pub diagnostic_at : Encoding → List ℕ → Diag → DiagnosticData
diagnostic_at encoding text d = diagnostic_in (diag_range encoding text d) d.message

-- some diagnostics of a text at their places
abbrev pub placed : Encoding → List ℕ → List Diag → List DiagnosticData
placed encoding text diags = map (diagnostic_at encoding text) diags
