-- The roots under which files were found on disk, whatever is done to documents.
use Rattle.std.specs.Prelude.{◌≡◌, ℕ, ℤ, List, Option, IsSome, option_map, option_and_then, bytes_eq}
use Rattle.std.specs.List.{find}
use Rattle.doc_text.specs.Edits.{ChangeData}
use Rattle.doc_text.specs.declared.encoding.Encoding.{Encoding}
use Rattle.work_files.specs.Disk.{FileData}
use Rattle.work_files.specs.Files.{OpenDocument, Files, file_at, root_at, AreInPathOrder, from_disk, opened_files, changed_files, saved_files, closed_files}

-- the text that is kept for a path
abbrev pub kept_at : Files → List ℕ → Option (List ℕ)
kept_at files path = option_and_then (λ f. f.kept) (file_at path files)

-- each file that was found under a root has a kept text
abbrev pub FoundFilesAreKept : Files → Type 0
FoundFilesAreKept files = (path : List ℕ) → IsSome (root_at files path) → IsSome (kept_at files path)

-- the root of each path is as before
abbrev pub RootsAreAsBefore : Files → Files → Type 0
RootsAreAsBefore old new = (path : List ℕ) → root_at new path ≡ root_at old path

-- at the start the root of a path is that of the first file on disk there, and what is done to a document changes the root of no path
pub record RootsStay : Type 0 where
  pub begun : (fs : List FileData) (path : List ℕ) → root_at (from_disk fs) path ≡ option_map (λ f. f.root) (find (λ f. bytes_eq f.path path) fs)
  pub opened : (uri : List ℕ) (d : OpenDocument) (path : List ℕ) (files : Files) → RootsAreAsBefore files (opened_files uri d path files)
  pub changed : (version : ℤ) (encoding : Encoding) (changes : List ChangeData) (path : List ℕ) (files : Files) → RootsAreAsBefore files (changed_files version encoding changes path files)
  pub saved : (path : List ℕ) (files : Files) → RootsAreAsBefore files (saved_files path files)
  pub closed : (path : List ℕ) (files : Files) → AreInPathOrder files → FoundFilesAreKept files → RootsAreAsBefore files (closed_files path files)

abbrev pub KeepsFoundFiles : (Files → Files) → Type 0
KeepsFoundFiles become = (files : Files) → AreInPathOrder files → FoundFilesAreKept files → FoundFilesAreKept (become files)

-- files on disk have kept texts, and what is done to a document leaves them one
pub record FoundFilesStayKept : Type 0 where
  pub begun : (fs : List FileData) → FoundFilesAreKept (from_disk fs)
  pub opened : (uri : List ℕ) (d : OpenDocument) (path : List ℕ) → KeepsFoundFiles (opened_files uri d path)
  pub changed : (version : ℤ) (encoding : Encoding) (changes : List ChangeData) (path : List ℕ) → KeepsFoundFiles (changed_files version encoding changes path)
  pub saved : (path : List ℕ) → KeepsFoundFiles (saved_files path)
  pub closed : (path : List ℕ) → KeepsFoundFiles (closed_files path)
