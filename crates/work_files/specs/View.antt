-- What is kept of files, as their definitions see it.
use Rattle.std.specs.Prelude.{ℕ, List, option_map, map, String, string_bytes}
use Rattle.std.specs.declared.alloc.Global.{Global}
use Rattle.work_files.specs.Files.{OpenDocument, File, Files}
use Rattle.work_files.specs.declared.document.Document.{Document}
use Rattle.work_files.specs.declared.entry.FileEntry.{FileEntry}

abbrev pub document_view : Document → OpenDocument
document_view d = record { version = d.version; text = d.text }

abbrev pub file_view : FileEntry → File
file_view f = record { document = option_map document_view f.document; kept = f.kept; uri = option_map string_bytes f.uri; root = f.root }

abbrev pub entry_view : String Global × FileEntry → List ℕ × File
entry_view e = (string_bytes e.0, file_view e.1)

abbrev pub files_view : List (String Global × FileEntry) → Files
files_view es = map entry_view es
