-- Roots, the paths of URIs, and the URIs of files (URL Standard; RFC 3986, section 2.1, "Percent-Encoding").
use Rattle.std.specs.Prelude.{ℕ, suc, nat_eq, nat_lt, List, [], ◌∷◌, ◌++◌, Bool, false, not, ◌&&◌, ◌||◌, ◌==◌, if◌then◌else◌, Option, Some, None, is_some, is_none, option_map, option_and_then, length, drop, slice_index_or, codes, bytes_eq}
use Rattle.std.specs.Char.{is_ascii_alphanumeric}
use Rattle.std.specs.List.{flat_map, list_all, list_any, starts_with, ends_with}
use Rattle.std.specs.Option.{option_or, option_map_or}
use Rattle.std.specs.Result.{result_ok}
use Rattle.std.specs.Str.{is_utf8}
use Rattle.percent_encoding.specs.Percent.{percent_decode, percent_encode_byte}
use Rattle.url.specs.Parser.{parse_url}
use Rattle.url.specs.Parts.{Parts, has_host, serialize}
use Rattle.workspace_uri.specs.Path.{is_workspace_path}

-- the URL that a text is, if it is one
abbrev pub url_of : List ℕ → Option Parts
url_of text = result_ok (parse_url None text)

-- a URL of the scheme `file` with no host
abbrev pub is_local_file : Parts → Bool
is_local_file url = bytes_eq url.scheme (codes "file") && not (has_host url)

-- ---- roots

-- a local file with no query and no fragment whose path ends with `/`
abbrev pub is_root : Parts → Bool
is_root url = is_local_file url && is_none url.query && is_none url.fragment && ends_with nat_eq url.path (codes "/")

abbrev pub folder_in : Parts → Option (List ℕ)
folder_in url = if is_root url then Some (percent_decode url.path) else None

-- the decoded path of a root, by the text of the root; a text that is no root has none
abbrev pub folder_of : List ℕ → Option (List ℕ)
folder_of root = option_and_then folder_in (url_of root)

-- there is at least one text, and each is a root's
abbrev pub are_roots : List (List ℕ) → Bool
are_roots texts = not (length texts == 0) && list_all (λ text. is_some (folder_of text)) texts

-- ---- the paths of URIs

-- the rest of a decoded path behind a folder, where the whole is UTF-8 and the rest is a workspace path
abbrev pub below : List ℕ → List ℕ → Option (List ℕ)
below folder path =
    if is_utf8 path && starts_with nat_eq path folder && is_workspace_path (drop (length folder) path)
    then Some (drop (length folder) path) else None

-- the path of a URL below a folder
abbrev pub path_below : List ℕ → Parts → Option (List ℕ)
path_below folder url = if is_local_file url then below folder (percent_decode url.path) else None

-- the same, by the text of the folder's root
abbrev pub path_below_root : List ℕ → Parts → Option (List ℕ)
path_below_root root url = option_and_then (λ folder. path_below folder url) (folder_of root)

-- its path below the first of the roots that it has one below, and the number of that root, where those of the roots are from a number on
abbrev pub place_in_roots : ℕ → List (List ℕ) → Parts → Option (ℕ × List ℕ)
place_in_roots number [] url = None
place_in_roots number (root ∷ roots) url = option_or (option_map (λ path. (number, path)) (path_below_root root url)) (place_in_roots (suc number) roots url)

-- where the document of a URI is: its path below the first root that it has one below, with the number of that root; and the path that it
-- has outside, its URL behind a slash
pub record UriPlaceData : Type 0 where
  pub below : Option (ℕ × List ℕ)
  pub outside : List ℕ

-- the place of the document of a URI, by the texts of the roots; a text that is no URL has none
abbrev pub place_of : List (List ℕ) → List ℕ → Option UriPlaceData
place_of roots uri = option_map (λ url. record { below = place_in_roots 0 roots url; outside = 47 ∷ serialize url }) (url_of uri)

-- the file that was found at a path at the start, if one was, is that of a root before the one with a number; its own root is given
abbrev pub is_of_earlier_root : ℕ → Option ℕ → Bool
is_of_earlier_root number None = false
is_of_earlier_root number (Some owner) = nat_lt owner number

abbrev pub path_below_or : List ℕ → Option ℕ → Option (ℕ × List ℕ) → List ℕ
path_below_or outside owner None = outside
path_below_or outside owner (Some below) = if is_of_earlier_root below.0 owner then outside else below.1

-- the path of a document: that below a root, unless an earlier root has the file at that path, or else the one outside
abbrev pub path_at : Option ℕ → UriPlaceData → List ℕ
path_at owner place = path_below_or place.outside owner place.below

-- the same, where the roots of the files are given by the files' paths
abbrev pub document_path : (List ℕ → Option ℕ) → UriPlaceData → List ℕ
document_path owner place = path_at (option_and_then (λ below. owner below.1) place.below) place

-- the path of a URI, by the roots of the files and the texts of the roots; a text that is no URL has none
abbrev pub path_of : (List ℕ → Option ℕ) → List (List ℕ) → List ℕ → Option (List ℕ)
path_of owner roots uri = option_map (document_path owner) (place_of roots uri)

-- ---- the URIs of files

-- a byte that stands in a URI as it is
abbrev pub is_kept : ℕ → Bool
is_kept b = is_ascii_alphanumeric b || list_any (λ c. c == b) (codes "-._~/")

-- any other is written as `%` and its two upper-case hexadecimal digits
abbrev pub escaped_byte : ℕ → List ℕ
escaped_byte b = if is_kept b then b ∷ [] else percent_encode_byte b

abbrev pub escaped : List ℕ → List ℕ
escaped path = flat_map escaped_byte path

-- the URI of a file that was never opened, by its root's text and its path under it
abbrev pub file_uri : List ℕ → List ℕ → List ℕ
file_uri root path = root ++ escaped path

-- the text of the root with a number; empty if there is none
abbrev pub root_text_at : List (List ℕ) → Option ℕ → List ℕ
root_text_at roots number = option_map_or (λ n. slice_index_or roots n []) number []
