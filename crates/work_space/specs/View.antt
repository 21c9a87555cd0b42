-- What is kept of a workspace, as its definitions see it.
use Rattle.std.specs.Prelude.{Bool}
use Rattle.std.specs.List.{zip}
use Rattle.piece_collector.specs.Views.{BoardView}
use Rattle.work_files.specs.Files.{Files}
use Rattle.work_index.specs.Workspace.{Workspace}
use Rattle.work_shares.specs.Diagnosis.{DiagnosisData}

-- the files of a workspace, the board of their texts, whether texts that aren't proto3 are read for what they declare, and whether an analysis
-- of the files as they are is known
pub record WorkspaceData : Type 0 where
  pub files : Files
  pub board : BoardView
  pub reads_others : Bool
  pub is_current : Bool

-- the files of a diagnosis, each with its text
abbrev pub diagnosed_files : DiagnosisData → Workspace
diagnosed_files d = zip d.paths d.sources
