-- The files that a session knows: documents that are open in the editor, and texts that are kept for their paths.
use Rattle.std.specs.Prelude.{◌≡◌, ℕ, ℤ, List, [], ◌∷◌, Bool, true, ◌&&◌, Option, Some, None, is_none, option_map, option_and_then, fold}
use Rattle.std.specs.List.{filter_map}
use Rattle.std.specs.Option.{option_or}
use Rattle.std.specs.Ordering.{nat_cmp}
use Rattle.std.specs.Cmp.Lexicographic.{slice_cmp}
use Rattle.std.specs.List.Sorted.{IsStrictlySortedBy}
use Rattle.std.specs.Map.{keys_of, lookup, set_value, remove_entry}
use Rattle.std.specs.BTreeMap.{insert_entry, is_at}
use Rattle.doc_text.specs.Edits.{ChangeData, replaced}
use Rattle.doc_text.specs.declared.encoding.Encoding.{Encoding}
use Rattle.work_files.specs.Disk.{FileData}

pub record OpenDocument : Type 0 where
  pub version : ℤ
  pub text : List ℕ

-- the document that is open, the text that is kept for the path, the URI of the last open, and the number of the root under which
-- the file was found on disk
pub record File : Type 0 where
  pub document : Option OpenDocument
  pub kept : Option (List ℕ)
  pub uri : Option (List ℕ)
  pub root : Option ℕ

-- a file without a text
abbrev pub empty_file : File
empty_file = record { document = None; kept = None; uri = None; root = None }

-- files by their paths, in the order of the paths' bytes
abbrev pub Files : Type 0
Files = List (List ℕ × File)

abbrev pub file_at : List ℕ → Files → Option File
file_at path files = lookup (is_at (slice_cmp nat_cmp path)) files

-- the number of the root under which the file at a path was found on disk
abbrev pub root_at : Files → List ℕ → Option ℕ
root_at files path = option_and_then (λ f. f.root) (file_at path files)

-- a new file in its place
abbrev pub with_file : List ℕ → File → Files → Files
with_file path file files = insert_entry (slice_cmp nat_cmp) files path file

-- another file in the place of the one at the path
abbrev pub set_file : List ℕ → File → Files → Files
set_file path file files = set_value (is_at (slice_cmp nat_cmp path)) files file

abbrev pub without_file : List ℕ → Files → Files
without_file path files = remove_entry (is_at (slice_cmp nat_cmp path)) files

-- ---- texts

-- the open text, or else the kept one
abbrev pub text_of : File → Option (List ℕ)
text_of f = option_or (option_map (λ d. d.text) f.document) f.kept

abbrev pub text_at : List ℕ → Files → Option (List ℕ)
text_at path files = option_and_then text_of (file_at path files)

-- the workspace: each file that has a text, with it, in the order of the paths
abbrev pub workspace : Files → List (List ℕ × List ℕ)
workspace files = filter_map (λ e. option_map (λ text. (e.0, text)) (text_of e.1)) files

-- no path comes twice
abbrev pub are_apart : Files → Bool
are_apart [] = true
are_apart (e ∷ files) = is_none (file_at e.0 files) && are_apart files

-- the text at each path is that of the workspace there
abbrev pub HasTextsOfWorkspace : Files → Type 0
HasTextsOfWorkspace files = (path : List ℕ) → lookup (is_at (slice_cmp nat_cmp path)) (workspace files) ≡ text_at path files

abbrev pub TextsAreOfTheWorkspace : Type 0
TextsAreOfTheWorkspace = (files : Files) → are_apart files ≡ true → HasTextsOfWorkspace files

-- ---- files on disk

abbrev pub disk_file : ℕ → List ℕ → File
disk_file root text = record { document = None; kept = Some text; uri = None; root = Some root }

-- the files with those of a list put among them, of which the earlier counts where two have one path
abbrev pub with_disk_files : List FileData → Files → Files
with_disk_files [] files = files
with_disk_files (f ∷ fs) files = with_file f.path (disk_file f.root f.text) (with_disk_files fs files)

abbrev pub from_disk : List FileData → Files
from_disk fs = with_disk_files fs []

-- ---- documents

abbrev pub opened_file : List ℕ → OpenDocument → File → File
opened_file uri d f = record f { document = Some d; uri = Some uri }

abbrev pub opened_at : List ℕ → OpenDocument → List ℕ → Files → Option File → Files
opened_at uri d path files None = with_file path (opened_file uri d empty_file) files
opened_at uri d path files (Some f) = set_file path (opened_file uri d f) files

-- an open under a URI, which replaces a document that is open; the kept text and the root stay
abbrev pub opened_files : List ℕ → OpenDocument → List ℕ → Files → Files
opened_files uri d path files = opened_at uri d path files (file_at path files)

abbrev pub with_document : (File → OpenDocument → Files) → Files → File → Option OpenDocument → Files
with_document become files f None = files
with_document become files f (Some d) = become f d

abbrev pub with_open_file : (File → OpenDocument → Files) → Files → Option File → Files
with_open_file become files None = files
with_open_file become files (Some f) = with_document become files f f.document

-- what becomes of the files where a document is open at the path; else nothing changes
abbrev pub where_open : (File → OpenDocument → Files) → List ℕ → Files → Files
where_open become path files = with_open_file become files (file_at path files)

-- a text after some changes, in order, each at places of the text that those before it leave; characters count in the encoding's units
abbrev pub edited_all : Encoding → List ChangeData → List ℕ → List ℕ
edited_all encoding changes text = fold (λ t c. replaced encoding c.range t c.text) text changes

abbrev pub changed_file : ℤ → Encoding → List ChangeData → File → OpenDocument → File
changed_file version encoding changes f d = record f { document = Some (record { version = version; text = edited_all encoding changes d.text }) }

-- changes of an open document, which takes their version whatever its own is
abbrev pub changed_files : ℤ → Encoding → List ChangeData → List ℕ → Files → Files
changed_files version encoding changes path files = where_open (λ f d. set_file path (changed_file version encoding changes f d) files) path files

abbrev pub saved_file : File → OpenDocument → File
saved_file f d = record f { kept = Some d.text }

-- a save of an open document: its text is kept
abbrev pub saved_files : List ℕ → Files → Files
saved_files path files = where_open (λ f d. set_file path (saved_file f d) files) path files

abbrev pub closed_at : List ℕ → Files → File → Option (List ℕ) → Files
closed_at path files f None = without_file path files
closed_at path files f (Some kept) = set_file path (record f { document = None }) files

-- a close of an open document: the kept text is the file's then, and a file that has none leaves
abbrev pub closed_files : List ℕ → Files → Files
closed_files path files = where_open (λ f d. closed_at path files f f.kept) path files

-- ---- the order of the files

-- their paths ascend
abbrev pub AreInPathOrder : Files → Type 0
AreInPathOrder files = IsStrictlySortedBy (slice_cmp nat_cmp) (keys_of files)

abbrev pub KeepsPathOrder : (Files → Files) → Type 0
KeepsPathOrder become = (files : Files) → AreInPathOrder files → AreInPathOrder (become files)

-- files from disk are in path order, and what is done to a document keeps them in it
pub record FilesStayInPathOrder : Type 0 where
  pub begun : (fs : List FileData) → AreInPathOrder (from_disk fs)
  pub opened : (uri : List ℕ) (d : OpenDocument) (path : List ℕ) → KeepsPathOrder (opened_files uri d path)
  pub changed : (version : ℤ) (encoding : Encoding) (changes : List ChangeData) (path : List ℕ) → KeepsPathOrder (changed_files version encoding changes path)
  pub saved : (path : List ℕ) → KeepsPathOrder (saved_files path)
  pub closed : (path : List ℕ) → KeepsPathOrder (closed_files path)

abbrev pub FilesInPathOrderAreApart : Type 0
FilesInPathOrderAreApart = (files : Files) → AreInPathOrder files → are_apart files ≡ true
