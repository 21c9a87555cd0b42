-- What contracts see of roots, and of where the document of a URI is.
use Rattle.std.specs.Prelude.{ℕ, List, map, option_map, string_bytes}
use Rattle.workspace_uri.specs.Uri.{UriPlaceData}
use Rattle.workspace_uri.specs.declared.root.Root.{Root}
use Rattle.workspace_uri.specs.declared.roots.Roots.{Roots}
use Rattle.workspace_uri.specs.declared.uri_place.PathBelow.{PathBelow}
use Rattle.workspace_uri.specs.declared.uri_place.UriPlace.{UriPlace}

-- the text of its URL
abbrev pub root_text : Root → List ℕ
root_text root = string_bytes root.text

-- its decoded path
abbrev pub folder : Root → List ℕ
folder root = root.folder.items

-- the texts of their URLs, in order
abbrev pub roots_texts : Roots → List (List ℕ)
roots_texts roots = map root_text roots.list.items

-- the number of the root, and the path below it
abbrev pub path_below_view : PathBelow → ℕ × List ℕ
path_below_view below = (below.root, string_bytes below.path)

abbrev pub uri_place_view : UriPlace → UriPlaceData
uri_place_view place = record { below = option_map path_below_view place.below; outside = string_bytes place.outside }
