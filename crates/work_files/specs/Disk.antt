-- Files on disk.
use Rattle.std.specs.Prelude.{ℕ, List, string_bytes}
use Rattle.work_files.specs.declared.disk.DiskFile.{DiskFile}

-- a file by the number of its root, its path under it and its text
pub record FileData : Type 0 where
  pub root : ℕ
  pub path : List ℕ
  pub text : List ℕ

-- ---- the Rust type beside this

abbrev pub disk_view : DiskFile → FileData
disk_view f = record { root = f.root; path = string_bytes f.path; text = string_bytes f.text }
