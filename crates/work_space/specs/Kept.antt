-- What a workspace keeps beside its files.
use Rattle.std.specs.Prelude.{◌≡◌, ℕ, ◌==◌, List, Bool, false, Option, Some, None, Contains, length, map, option_map, IfSome, string_bytes}
use Rattle.piece_collector.specs.Views.{BoardView}
use Rattle.work_index.specs.Workspace.{IsKnown, Source, workspace_in}
use Rattle.work_update.specs.Updates.{IsInOrder, NameAllChanges, sources_by_path}
use Rattle.work_files.specs.Files.{Files, AreInPathOrder, text_at}
use Rattle.work_space.specs.BoardTexts.{HoldsTexts}
use Rattle.work_space.specs.View.{WorkspaceData}
use Rattle.work_space.specs.declared.last_analysis.LastAnalysis.{LastAnalysis}

-- It is the analysis of a workspace in the order of its paths, and the paths that are kept with it name all changes from the sources there to
-- these, which are given by path.
pub record IsOf (known : LastAnalysis) (sources : List ℕ → Option Source) : Type 0 where
  pub is : IsKnown known.analysis
  pub ordered : IsInOrder (workspace_in known.analysis)
  pub changes : NameAllChanges (map string_bytes known.changes.items) (sources_by_path (workspace_in known.analysis)) sources

-- whether it is an analysis of the files as they are
abbrev pub is_current : Option LastAnalysis → Bool
is_current None = false
is_current (Some known) = length known.changes.items == 0

-- this path is among the later ones, and so is each earlier one
pub record AreNoted (path : List ℕ) (earlier later : List (List ℕ)) : Type 0 where
  pub noted : Contains later path
  pub kept : (q : List ℕ) → Contains earlier q → Contains later q

-- the text of the file at a path, with the choice of the workspace
abbrev pub source_at : Bool → Files → List ℕ → Option Source
source_at reads_others files path = option_map (λ text. record { text = text; reads_others = reads_others }) (text_at path files)

abbrev pub workspace_data : Files → BoardView → Bool → Option LastAnalysis → WorkspaceData
workspace_data files board reads_others known = record { files = files; board = board; reads_others = reads_others; is_current = is_current known }

-- what is true of the fields of every workspace
pub record IsKept (files : Files) (board : BoardView) (reads_others : Bool) (known : Option LastAnalysis) : Type 0 where
  pub ordered : AreInPathOrder files
  pub here : board.is_lent ≡ false
  pub texts : HoldsTexts files board
  pub is_of : IfSome known (λ k. IsOf k (source_at reads_others files))
