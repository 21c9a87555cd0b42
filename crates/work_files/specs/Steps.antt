-- Files with room for a path, and with another document, another kept text or no document open.
use Rattle.std.specs.Prelude.{ℕ, List, Bool, false, ◌&&◌, Option, Some, None, is_some, is_none}
use Rattle.work_files.specs.Files.{OpenDocument, File, Files, empty_file, file_at, with_file, set_file, where_open}

abbrev pub room_for : List ℕ → Files → Option File → Files
room_for path files None = with_file path empty_file files
room_for path files (Some f) = files

-- the files with one at the path, without a text if there was none
abbrev pub with_room : List ℕ → Files → Files
with_room path files = room_for path files (file_at path files)

-- a file with another document, if one is open
abbrev pub with_new_document : OpenDocument → File → Option OpenDocument → File
with_new_document document f None = f
with_new_document document f (Some d) = record f { document = Some document }

-- the files with another document in the place of the one that is open at a path
abbrev pub with_document_at : List ℕ → OpenDocument → Files → Files
with_document_at path document files = where_open (λ f d. set_file path (record f { document = Some document }) files) path files

-- a file with another kept text, if a document is open
abbrev pub with_new_kept : List ℕ → File → Option OpenDocument → File
with_new_kept text f None = f
with_new_kept text f (Some d) = record f { kept = Some text }

-- the files with another kept text for the path of a document that is open
abbrev pub with_kept_at : List ℕ → List ℕ → Files → Files
with_kept_at path text files = where_open (λ f d. set_file path (record f { kept = Some text }) files) path files

-- whether a document is open in a file and no text is kept
abbrev pub leaves : Option File → Bool
leaves None = false
leaves (Some f) = is_some f.document && is_none f.kept

-- the files with no document open at a path
abbrev pub with_none_open : List ℕ → Files → Option File → Files
with_none_open path files None = files
with_none_open path files (Some f) = set_file path (record f { document = None }) files
