-- What an analysis is taken apart into, and put together from.
use Rattle.std.specs.Prelude.{◌≡◌, map}
use Rattle.std.specs.List.{enumerate_from}
use Rattle.work_index.specs.declared.analysis.AnalysisParts.{AnalysisParts}
use Rattle.work_index.specs.Workspace.{Workspace, all_facts, diagnostics_of, resolution_of}

-- the parts of the analysis of a workspace: the table of all facts, the files, what their names mean, and what is wrong in them
pub record AreParts (w : Workspace) (parts : AnalysisParts) : Type 0 where
  pub table : parts.table ≡ all_facts w
  pub files : parts.files.items ≡ w
  pub links : parts.resolutions.links.items ≡ map (resolution_of w) (enumerate_from 0 w)
  pub diagnostics : parts.resolutions.diagnostics.items ≡ map (diagnostics_of w) (enumerate_from 0 w)
