-- Which files a search may leave out.
use Rattle.std.specs.Prelude.{◌≡◌, ℕ, List, Bool, true, false, slice_index_or}
use Rattle.work_index.specs.Workspace.{AnalysisData}
use Rattle.lsp_queries.specs.Answers.{is_match}

-- no declaration of the file is a match
abbrev pub HasNoMatch : AnalysisData → List ℕ → ℕ → Type 0
HasNoMatch a query file = (number : ℕ) → is_match a query (record { file = file; number = number }) ≡ false

-- for each file whether it is searched: one that isn't has no match
abbrev pub LeavesOut : AnalysisData → List ℕ → List Bool → Type 0
LeavesOut a query searched = (file : ℕ) → slice_index_or searched file true ≡ false → HasNoMatch a query file
