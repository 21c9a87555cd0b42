-- Which documents are open, and which texts change.
use Rattle.std.specs.Prelude.{◌≡◌, ℕ, ℤ, List, Bool, Option, Some, is_some, option_and_then, bytes_eq}
use Rattle.std.specs.Map.{update}
use Rattle.doc_text.specs.Edits.{ChangeData}
use Rattle.doc_text.specs.declared.encoding.Encoding.{Encoding}
use Rattle.work_files.specs.Files.{OpenDocument, Files, file_at, text_at, AreInPathOrder, opened_files, changed_files, saved_files, closed_files}

-- the document that is open at a path
abbrev pub open_document : List ℕ → Files → Option OpenDocument
open_document path files = option_and_then (λ f. f.document) (file_at path files)

abbrev pub is_open : List ℕ → Files → Bool
is_open path files = is_some (open_document path files)

-- ---- what is done to a document changes the text of its path alone

-- the path has this text in the new files, and each other path has the text that it had
abbrev pub TextsChangeAt : List ℕ → Option (List ℕ) → Files → Files → Type 0
TextsChangeAt path text old new = (q : List ℕ) → text_at q new ≡ update bytes_eq (λ p. text_at p old) path text q

-- an open sets a text, changes and a close may, and a save changes none
pub record TextsChangeAtOnePath : Type 0 where
  pub opened : (uri : List ℕ) (d : OpenDocument) (path : List ℕ) (files : Files) → TextsChangeAt path (Some d.text) files (opened_files uri d path files)
  pub changed : (version : ℤ) (encoding : Encoding) (changes : List ChangeData) (path : List ℕ) (files : Files)
      → TextsChangeAt path (text_at path (changed_files version encoding changes path files)) files (changed_files version encoding changes path files)
  pub saved : (path : List ℕ) (files : Files) (q : List ℕ) → text_at q (saved_files path files) ≡ text_at q files
  pub closed : (path : List ℕ) (files : Files) → AreInPathOrder files → TextsChangeAt path (text_at path (closed_files path files)) files (closed_files path files)
