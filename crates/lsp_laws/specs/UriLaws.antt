-- The URIs of a session's files.
use Rattle.std.specs.Prelude.{◌≡◌, ℕ, ◌<◌, List, [], true, Some, None, Ok, All, IsUtf8, length, take, slice_index_or, option_and_then}
use Rattle.doc_text.specs.declared.position.Range.{Range}
use Rattle.workspace_uri.specs.Laws.{IsWrittenRoot}
use Rattle.workspace_uri.specs.Path.{is_workspace_path}
use Rattle.workspace_uri.specs.Uri.{file_uri, place_in_roots, url_of}
use Rattle.work_config.specs.Configuration.{Configuration}
use Rattle.work_files.specs.Disk.{FileData}
use Rattle.work_files.specs.Files.{File, file_at}
use Rattle.lsp_answers.specs.Answers.{DocumentPlaceData, edits_at}
use Rattle.lsp_answers.specs.Reports.{uri_of}
use Rattle.lsp_core.specs.Session.{State, context_of, path_of, session, start}
use Rattle.lsp_laws.specs.DocumentLaws.{EditUnderUris, UrisDiffer}

-- the URI of each file leads back to the file's path
abbrev pub UrisLeadBack : State → Type 0
UrisLeadBack s = (path : List ℕ) (file : File) → file_at path s.files ≡ Some file → path_of s (uri_of s.roots path (Some file)) ≡ Some path

-- the URIs lead back, and no two files of the workspace have one
pub record HasUrisOfItsFiles (s : State) : Type 0 where
  pub lead_back : UrisLeadBack s
  pub differ : UrisDiffer (context_of s)

-- so it is whatever messages came, if the URIs lead back at the start
abbrev pub UrisStayApart : Type 0
UrisStayApart = (config : Configuration) (bodies : List (List ℕ)) → UrisLeadBack (start config) → HasUrisOfItsFiles (session config bodies).state

-- The root of a file is written as its URL is, its path is UTF-8 and one of a workspace, and its URI lies below no root before its
-- own. The first root has none before it.
pub record HasOwnUri (roots : List (List ℕ)) (f : FileData) : Type 0 where
  pub rooted : f.root < length roots
  pub written : IsWrittenRoot (slice_index_or roots f.root [])
  pub text : IsUtf8 f.path
  pub good : is_workspace_path f.path ≡ true
  pub first : option_and_then (place_in_roots 0 (take f.root roots)) (url_of (file_uri (slice_index_or roots f.root []) f.path)) ≡ None

-- the URIs lead back at the start where each file on disk is such a one
abbrev pub UrisOfWrittenRoots : Type 0
UrisOfWrittenRoots = (config : Configuration) → All (HasOwnUri config.roots) config.files → UrisLeadBack (start config)

-- In each state of a session whose URIs lead back at the start, each file gets its edits under its URI.
abbrev pub RenamesOfASession : Type 0
RenamesOfASession =
    (config : Configuration) (bodies : List (List ℕ)) (at : DocumentPlaceData) (new_name : List ℕ) (documents : List (List ℕ × List Range)) → UrisLeadBack (start config)
    → (let c = context_of (session config bodies).state in All (λ file. IsUtf8 file.1.text) c.workspace → edits_at c at new_name ≡ Ok documents → EditUnderUris c at new_name documents)
