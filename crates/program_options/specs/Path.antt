-- Paths in the file system, and the URLs of folders.
use Rattle.std.specs.Prelude.{ℕ, nat_eq, ◌-◌, List, ◌++◌, Bool, ◌==◌, length, take, codes}
use Rattle.std.specs.List.{starts_with, suffix_len}
use Rattle.workspace_uri.specs.Uri.{escaped}

-- the path begins at the top of the file system
abbrev pub is_absolute : List ℕ → Bool
is_absolute path = starts_with nat_eq path (codes "/")

-- `/`
abbrev pub is_slash : ℕ → Bool
is_slash b = b == 47

-- the path without the slashes at its end
abbrev pub without_closing_slashes : List ℕ → List ℕ
without_closing_slashes path = take (length path - suffix_len is_slash path) path

-- the URL of the folder at a path
abbrev pub root_url : List ℕ → List ℕ
root_url dir = codes "file://" ++ escaped (without_closing_slashes dir) ++ codes "/"
