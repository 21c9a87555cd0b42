-- What the definitions of roots, paths and URIs come to.
use Rattle.std.specs.Prelude.{◌≡◌, ℕ, List, [], ◌∷◌, ◌++◌, length, true, false, Option, Some, None, IsUtf8, codes}
use Rattle.url.specs.Parts.{Parts, serialize}
use Rattle.workspace_uri.specs.Path.{is_workspace_path}
use Rattle.workspace_uri.specs.Uri.{url_of, folder_in, place_in_roots, is_of_earlier_root, path_of, escaped, file_uri}

-- the text of a root is what its URL is written as, and the root's folder is UTF-8
pub record IsWrittenRoot (root : List ℕ) : Type 0 where
  pub text : IsUtf8 root
  pub url : Parts
  pub is : url_of root ≡ Some url
  pub written : serialize url ≡ root
  pub folder : List ℕ
  pub names : folder_in url ≡ Some folder
  pub folder_text : IsUtf8 folder

-- The root of a folder, `file://` and the folder's escaped path, is written so where the path is a `/` and a workspace path, and for the
-- topmost folder.
abbrev pub FoldersHaveWrittenRoots : Type 0
FoldersHaveWrittenRoots =
    IsWrittenRoot (codes "file:///")
    × ((path : List ℕ) → IsUtf8 path → is_workspace_path path ≡ true → IsWrittenRoot (codes "file://" ++ escaped (47 ∷ path) ++ codes "/"))

-- the URI of a file below a root leads back to the file's path
abbrev pub FileUrisLeadBack : Type 0
FileUrisLeadBack =
    (owner : List ℕ → Option ℕ) (root path : List ℕ) → IsWrittenRoot root → IsUtf8 path → is_workspace_path path ≡ true
    → path_of owner (root ∷ []) (file_uri root path) ≡ Some path

-- With several roots it does so unless the URI also lies below an earlier root, or the path is that of an earlier root's file.
abbrev pub FileUrisOfSeveralRoots : Type 0
FileUrisOfSeveralRoots =
    (owner : List ℕ → Option ℕ) (before after : List (List ℕ)) (root path : List ℕ) → IsWrittenRoot root → IsUtf8 path
    → is_workspace_path path ≡ true
    → ((url : Parts) → url_of (file_uri root path) ≡ Some url → place_in_roots 0 before url ≡ None)
    → is_of_earlier_root (length before) (owner path) ≡ false
    → path_of owner (before ++ root ∷ after) (file_uri root path) ≡ Some path
