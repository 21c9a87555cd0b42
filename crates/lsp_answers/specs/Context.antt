-- What answers are made of.
use Rattle.std.specs.Prelude.{ℕ, List}
use Rattle.doc_text.specs.declared.encoding.Encoding.{Encoding}
use Rattle.work_files.specs.Files.{Files}
use Rattle.work_index.specs.Workspace.{Workspace}

-- the texts of the roots, the encoding of the positions that are written, and the files of a session; the workspace is those that have a text
pub record Context : Type 0 where
  pub roots : List (List ℕ)
  pub encoding : Encoding
  pub files : Files
  pub workspace : Workspace
