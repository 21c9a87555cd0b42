-- The paths of files in a workspace.
use Rattle.std.specs.Prelude.{ℕ, List, Bool, not, ◌&&◌, ◌==◌, length, codes, bytes_eq}
use Rattle.std.specs.List.{slice_split, list_all, list_any}

-- what stands between the slashes of a path
abbrev pub segments : List ℕ → List (List ℕ)
segments path = slice_split (λ b. b == 47) path

-- a segment is not empty, is neither `.` nor `..`, and has no byte 0
abbrev pub is_segment : List ℕ → Bool
is_segment s = not (length s == 0) && not (bytes_eq s (codes ".")) && not (bytes_eq s (codes "..")) && not (list_any (λ b. b == 0) s)

-- one or more segments with a slash between each two
abbrev pub is_workspace_path : List ℕ → Bool
is_workspace_path path = list_all is_segment (segments path)
