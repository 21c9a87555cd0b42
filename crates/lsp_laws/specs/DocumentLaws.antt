-- The documents that a rename edits.
use Rattle.std.specs.Prelude.{◌≡◌, ◌≢◌, ℕ, ◌==◌, ◌<◌, ◌≤◌, List, [], ◌∷◌, Some, Ok, All, Contains, IsUtf8, find, length, map}
use Rattle.std.specs.List.{AllPairs, enumerate_from}
use Rattle.std.specs.Option.{option_map_or}
use Rattle.doc_text.specs.declared.position.Range.{Range}
use Rattle.doc_text.specs.Edits.{ChangeData}
use Rattle.work_index.specs.Workspace.{Workspace, analysis}
use Rattle.work_meaning.specs.Bindings.{SameMeaning}
use Rattle.work_meaning.specs.Edited.{with_text}
use Rattle.lsp_renames.specs.ByFile.{by_file}
use Rattle.lsp_renames.specs.Edited.{edited, places_in, respelled}
use Rattle.lsp_queries.specs.PlaceLaws.{text_in}
use Rattle.lsp_renames.specs.Renaming.{renamed}
use Rattle.lsp_queries.specs.declared.place.Place.{Place}
use Rattle.lsp_rpc.specs.Message.{IdData}
use Rattle.lsp_rpc.specs.Reply.{result_reply}
use Rattle.lsp_rpc.specs.WorkspaceEdit.{merged, ranges_at, workspace_edit_value}
use Rattle.lsp_answers.specs.Answers.{DocumentPlaceData, document_of, edits_at, number_of, uri_at}
use Rattle.lsp_answers.specs.Context.{Context}
use Rattle.lsp_answers.specs.Questions.{Rename, answer}
use Rattle.work_laws.specs.EditLaws.{changed_from_the_last}

-- there is one group for each file that has a place, in ascending order, with all the places in it
pub record AreByFile (places : List Place) (groups : List (ℕ × List Place)) : Type 0 where
  pub each : All (λ g. g.1 ≡ places_in g.0 places) groups
  pub once : AllPairs (λ g h. g.0 < h.0) groups
  pub all : All (λ p. Contains (map (λ g. g.0) groups) p.file) places
  pub only : All (λ g. Contains (map (λ p. p.file) places) g.0) groups

-- so it is where the files of the places ascend
abbrev pub GroupsAreTheFiles : Type 0
GroupsAreTheFiles = (places : List Place) → AllPairs (λ p q. p.file ≤ q.file) places → AreByFile places (by_file places)

-- a name for each of the ranges
abbrev pub changes_with : List ℕ → List Range → List ChangeData
changes_with name ranges = map (λ r. record { range = Some r; text = name }) ranges

-- the places of a group are all of those in its file, and the edits of its document give the text of the file the new name there
pub record IsRespelled (c : Context) (new_name : List ℕ) (places : List Place) (g : ℕ × List Place) : Type 0 where
  pub all_places : g.1 ≡ places_in g.0 places
  pub edits : (let d : List ℕ × List Range = document_of c g in changed_from_the_last c.encoding (changes_with new_name d.1) (text_in c.workspace g.0)) ≡ respelled new_name (text_in c.workspace g.0) g.1

-- the documents are those of the places that the rename asked for there changes, by their files, and get the new name there
pub record AreRespelled (c : Context) (at : DocumentPlaceData) (new_name : List ℕ) (documents : List (List ℕ × List Range)) : Type 0 where
  pub asked : ℕ
  pub named : number_of c.workspace at.path ≡ Some asked
  pub places : List Place
  pub answered : renamed (analysis c.workspace) asked at.offset new_name ≡ Ok places
  pub groups : List (ℕ × List Place)
  pub by_files : AreByFile places groups
  pub are : documents ≡ map (document_of c) groups
  pub edited : All (IsRespelled c new_name places) groups

abbrev pub RenamesRespellDocuments : Type 0
RenamesRespellDocuments =
    (c : Context) (at : DocumentPlaceData) (new_name : List ℕ) (documents : List (List ℕ × List Range)) → All (λ file. IsUtf8 file.1.text) c.workspace
    → edits_at c at new_name ≡ Ok documents → AreRespelled c at new_name documents

-- ---- the workspace

-- the files, each with the new name at the ranges that are given for its number, put there from the last to the first
abbrev pub with_new_name : Context → List ℕ → (ℕ → List Range) → Workspace
with_new_name c new_name ranges = map (λ e. (e.1.0, with_text e.1.1 (changed_from_the_last c.encoding (changes_with new_name (ranges e.0)) e.1.1.text))) (enumerate_from 0 c.workspace)

-- The second workspace is the first with the new name at the places. In both each name stands for the same, and what is wrong in each
-- file has the same numbers.
pub record IsRenamed (w : Workspace) (new_name : List ℕ) (places : List Place) (after : Workspace) : Type 0 where
  pub spelled : after ≡ edited new_name places w
  pub keeps : SameMeaning (analysis w) (analysis after)

-- the ranges of a file: those of the document of its group, or none if no group is the file's
abbrev pub ranges_of : Context → List (ℕ × List Place) → ℕ → List Range
ranges_of c groups file = option_map_or (λ g. let d : List ℕ × List Range = document_of c g in d.1) (find (λ g. g.0 == file) groups) []

-- Each document is that of a file of the workspace. If each of these files gets the edits of its document, and all others stay as they
-- are, the workspace is renamed.
pub record EditTheWorkspace (c : Context) (at : DocumentPlaceData) (new_name : List ℕ) (documents : List (List ℕ × List Range)) : Type 0 where
  pub respelled : AreRespelled c at new_name documents
  pub there : All (λ g. g.0 < length c.workspace) respelled.groups
  pub after : IsRenamed c.workspace new_name respelled.places (with_new_name c new_name (ranges_of c respelled.groups))

abbrev pub RenamesEditTheWorkspace : Type 0
RenamesEditTheWorkspace =
    (c : Context) (at : DocumentPlaceData) (new_name : List ℕ) (documents : List (List ℕ × List Range)) → All (λ file. IsUtf8 file.1.text) c.workspace
    → edits_at c at new_name ≡ Ok documents → EditTheWorkspace c at new_name documents

-- ---- the workspace of an editor

-- files that have one URI are one file
abbrev pub UrisDiffer : Context → Type 0
UrisDiffer c = (m n : ℕ) → m < length c.workspace → n < length c.workspace → uri_at c m ≡ uri_at c n → m ≡ n

-- the ranges that a reply has under the URI of a file
abbrev pub ranges_under : Context → List (List ℕ × List Range) → ℕ → List Range
ranges_under c documents file = ranges_at (uri_at c file) (merged documents)

-- The reply has the documents. If each file gets the edits that are there under its URI, the workspace is renamed, and there are no
-- edits under other URIs.
pub record EditUnderUris (c : Context) (at : DocumentPlaceData) (new_name : List ℕ) (documents : List (List ℕ × List Range)) : Type 0 where
  pub replied : (id : IdData) → answer c id (Rename at new_name) ≡ result_reply id (workspace_edit_value new_name documents) ∷ []
  pub respelled : AreRespelled c at new_name documents
  pub after : IsRenamed c.workspace new_name respelled.places (with_new_name c new_name (ranges_under c documents))
  pub only : (uri : List ℕ) → ((file : ℕ) → file < length c.workspace → uri_at c file ≢ uri) → ranges_at uri (merged documents) ≡ []

-- so it is where no two files have one URI
abbrev pub RenamesEditUnderUris : Type 0
RenamesEditUnderUris =
    (c : Context) (at : DocumentPlaceData) (new_name : List ℕ) (documents : List (List ℕ × List Range)) → All (λ file. IsUtf8 file.1.text) c.workspace → UrisDiffer c
    → edits_at c at new_name ≡ Ok documents → EditUnderUris c at new_name documents
