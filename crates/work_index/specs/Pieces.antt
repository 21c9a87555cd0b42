-- The workspace of some pieces.
use Rattle.std.specs.Prelude.{ℕ, ◌+◌, ◌≤◌, Bool, List, map}
use Rattle.piece_collector.specs.Views.{TextAt}
use Rattle.work_index.specs.Workspace.{SourceAt, Workspace}

module _ (reads_others : Bool) where
  -- the file of a piece, given whether texts that aren't proto3 are read
  abbrev pub source_of : TextAt → SourceAt
  source_of p = (p.path, record { text = p.text; reads_others = reads_others })

  abbrev pub workspace_of : List TextAt → Workspace
  workspace_of pieces = map source_of pieces

-- `count` numbers from `first` on are numbers of files, of which there are so many; a `usize` holds that many
pub record AreNumbersIn (files first count : ℕ) : Type 0 where
  pub within : first + count ≤ files
  pub held : files ≤ 18446744073709551615
