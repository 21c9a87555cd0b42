-- What an editor asks about the files of a workspace, and the replies.
use Rattle.std.specs.Prelude.{ℕ, List, [], ◌∷◌, Bool}
use Rattle.std.specs.Option.{option_to_list}
use Rattle.serde_json.specs.Data.{Data}
use Rattle.lsp_rpc.specs.Diagnostic.{report_value}
use Rattle.lsp_rpc.specs.Location.{locations_or_null}
use Rattle.lsp_rpc.specs.Message.{IdData}
use Rattle.lsp_rpc.specs.Reply.{result_reply}
use Rattle.lsp_rpc.specs.Symbol.{symbols_value}
use Rattle.lsp_rpc.specs.Workspace.{workspace_value}
use Rattle.lsp_answers.specs.Answers.{definition_at, references_at, symbols_for, edits_at, rename_reply}
use Rattle.lsp_answers.specs.Context.{Context}
use Rattle.lsp_answers.specs.Reports.{document_diagnostics, workspace_reports}
pub use Rattle.lsp_answers.specs.Answers.{DocumentPlaceData}

-- what is wrong in the document at a path, or in all files; the declarations whose full name contains a text; and for the name at a place
-- where it is declared, where it is used, with its declaration or without, and what gives it another name
pub data QuestionData : Type 0 where
  Diagnostics : List ℕ → QuestionData
  AllDiagnostics : QuestionData
  Symbols : List ℕ → QuestionData
  Definition : DocumentPlaceData → QuestionData
  References : DocumentPlaceData → Bool → QuestionData
  Rename : DocumentPlaceData → List ℕ → QuestionData

-- the reply to a question; none to a rename for which there was no memory
abbrev pub answer : Context → IdData → QuestionData → List Data
answer c id (Diagnostics path) = result_reply id (report_value (document_diagnostics c path)) ∷ []
answer c id AllDiagnostics = result_reply id (workspace_value (workspace_reports c)) ∷ []
answer c id (Symbols query) = result_reply id (symbols_value (symbols_for c query)) ∷ []
answer c id (Definition at) = result_reply id (locations_or_null (definition_at c at)) ∷ []
answer c id (References at include) = result_reply id (locations_or_null (references_at c at include)) ∷ []
answer c id (Rename at new_name) = option_to_list (rename_reply id new_name (edits_at c at new_name))
