-- One more file in a workspace, which none of the others imports.
use Rattle.std.specs.Prelude.{◌≡◌, ◌<◌, ◌≤◌, ◌+◌, ℕ, List, Option, Some, nat_lt, if◌then◌else◌, length, map}
use Rattle.std.specs.Cmp.Lexicographic.{slice_cmp}
use Rattle.std.specs.List.{enumerate_from, insert, range_with_len}
use Rattle.std.specs.List.Sorted.{IsStrictlySortedBy}
use Rattle.std.specs.Ordering.{nat_cmp}
use Rattle.import_graph.specs.Paths.{IsInPathOrder}
use Rattle.work_links.specs.Laws.{decl_moved}
use Rattle.work_links.specs.Touched.{links_after}
use Rattle.work_index.specs.declared.analysis.AnalysisParts.{AnalysisParts}
use Rattle.work_index.specs.Workspace.{AnalysisData, NoneImports, SourceAt, Workspace, all_facts, analysis, diagnostics_of, named_facts, resolution_of}

-- the numbers of so many files, once another comes to the place `at`: those before it keep theirs, and those from there on get the next
-- higher one
abbrev pub numbers_with : ℕ → ℕ → List (Option ℕ)
numbers_with at count = map (λ g. Some (if nat_lt g at then g else g + 1)) (range_with_len 0 count)

-- The analysis is that of a workspace to which a file comes that none of its files imports, and which gets the number `at`. With it the
-- files are in the order of their paths.
pub record Arrives (a : AnalysisData) (file : SourceAt) : Type 0 where
  pub old : Workspace
  pub at : ℕ
  pub is : a ≡ analysis old
  pub within : at ≤ length old
  pub ordered : IsStrictlySortedBy (slice_cmp nat_cmp) (map (λ f. f.0) (insert old at file))
  pub nobody : NoneImports a.facts file.0

-- With the file at the place `at` of each part, and the declarations in the other links under the numbers `to` of their files, the parts are those of
-- the workspace. Its files are in the order of their paths.
pub record TakesIn (w : Workspace) (to : List (Option ℕ)) (at : ℕ) (file : SourceAt) (parts : AnalysisParts) : Type 0 where
  pub here : at < length w
  pub table_place : at ≤ length parts.table
  pub ordered : IsInPathOrder (insert parts.table at (named_facts file))
  pub table_is : insert parts.table at (named_facts file) ≡ all_facts w
  pub files_place : at ≤ length parts.files.items
  pub files_are : insert parts.files.items at file ≡ w
  pub links_place : at ≤ length parts.resolutions.links.items
  pub links_are : insert (map (links_after (decl_moved to)) parts.resolutions.links.items) at (resolution_of w (at, file)) ≡ map (resolution_of w) (enumerate_from 0 w)
  pub diagnostics_place : at ≤ length parts.resolutions.diagnostics.items
  pub diagnostics_are : insert parts.resolutions.diagnostics.items at (diagnostics_of w (at, file)) ≡ map (diagnostics_of w) (enumerate_from 0 w)
