-- What is wrong in the files of a workspace, as the editor gets it.
use Rattle.std.specs.Prelude.{◌≡◌, ℕ, ℤ, List, [], ◌∷◌, Bool, Option, Some, is_some, option_map, option_and_then, unwrap_or, map, filter, slice_index_or}
use Rattle.std.specs.List.{enumerate_from}
use Rattle.serde_json.specs.Data.{Data}
use Rattle.lsp_rpc.specs.Diagnostic.{DiagnosticData}
use Rattle.lsp_rpc.specs.Notification.{publication_value}
use Rattle.lsp_rpc.specs.Workspace.{DocumentData}
use Rattle.proto_decls.specs.declared.diagnostic.Diag.{Diag}
use Rattle.work_index.specs.Workspace.{SourceAt, analysis, diags_at, sources_of}
use Rattle.workspace_uri.specs.Uri.{file_uri, root_text_at}
use Rattle.work_files.specs.Files.{File, Files, file_at, text_at, workspace, AreInPathOrder}
use Rattle.lsp_answers.specs.Context.{Context}
use Rattle.lsp_answers.specs.Diagnostics.{placed}

-- the text of the file at a path; empty if it has none
abbrev pub document_text : Context → List ℕ → List ℕ
document_text c path = unwrap_or (text_at path c.files) []

-- what is wrong in the document at a path
abbrev pub document_diagnostics : Context → List ℕ → List DiagnosticData
document_diagnostics c path = placed c.encoding (document_text c path) (diags_at (analysis c.workspace) path)

-- the URI of the last open of the file, or else that of the path below the root under which it was found
abbrev pub uri_of : List (List ℕ) → List ℕ → Option File → List ℕ
uri_of roots path file = unwrap_or (option_and_then (λ f. f.uri) file) (file_uri (root_text_at roots (option_and_then (λ f. f.root) file)) path)

-- the version of its document, if one is open
abbrev pub version_of : Option File → Option ℤ
version_of file = option_and_then (λ f. option_map (λ d. d.version) f.document) file

-- the report of a file, given its path and its text, and what is wrong in it
abbrev pub report_of : Context → List Diag → List ℕ × List ℕ → DocumentData
report_of c diags file = record {
  diagnostics = placed c.encoding file.1 diags;
  uri = uri_of c.roots file.0 (file_at file.0 c.files);
  version = version_of (file_at file.0 c.files);
}

-- the same, given its number in the workspace
abbrev pub numbered_report : Context → ℕ × SourceAt → DocumentData
numbered_report c file = report_of c (let a = analysis c.workspace in slice_index_or a.diagnostics file.0 []) (file.1.0, file.1.1.text)

-- the reports of all files of the workspace, by path
abbrev pub workspace_reports : Context → List DocumentData
workspace_reports c = map (numbered_report c) (enumerate_from 0 c.workspace)

-- ---- what is published

-- the files whose document is open, by path
abbrev pub open_files : Files → Files
open_files files = filter (λ file. is_some file.1.document) files

-- what is published of a file, given its path: what a request for its document gets, the URI of its last open, and its version
abbrev pub published_report : Context → List ℕ × File → DocumentData
published_report c file = record {
  diagnostics = document_diagnostics c file.0;
  uri = uri_of c.roots file.0 (Some file.1);
  version = version_of (Some file.1);
}

-- the publications of the open documents among some files
abbrev pub publications_in : Context → Files → List Data
publications_in c files = map (λ file. publication_value (published_report c file)) (open_files files)

-- those of all open documents, by path
abbrev pub publications : Context → List Data
publications c = publications_in c c.files

-- ---- the reports beside the documents

-- the diagnostics of the reports, one after the other, are those of each document of the workspace
abbrev pub ReportsAreOfDocuments : Context → Type 0
ReportsAreOfDocuments c = map (λ report. report.diagnostics) (workspace_reports c) ≡ map (λ file. document_diagnostics c file.0) c.workspace

-- what is published is said of the open documents among the reports of all files
abbrev pub PublicationsAreReports : Context → Type 0
PublicationsAreReports c = map (published_report c) (open_files c.files) ≡ filter (λ report. is_some report.version) (workspace_reports c)

-- so it is where the paths of the files ascend, and the workspace is those that have a text, which are all read alike
abbrev pub ReportsAgreeWithDocuments : Type 0
ReportsAgreeWithDocuments = (reads_others : Bool) (c : Context) → AreInPathOrder c.files → c.workspace ≡ sources_of reads_others (workspace c.files) → ReportsAreOfDocuments c

abbrev pub PublicationsAgreeWithReports : Type 0
PublicationsAgreeWithReports = (reads_others : Bool) (c : Context) → AreInPathOrder c.files → c.workspace ≡ sources_of reads_others (workspace c.files) → PublicationsAreReports c
