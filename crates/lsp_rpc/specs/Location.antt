-- Places in documents on the wire: Language Server Protocol 3.17, "Location". The keys of each object stand in the order of
-- their bytes.
use Rattle.std.specs.Prelude.{ℕ, List, Option, Some, None, map, codes, string_bytes}
use Rattle.std.specs.List.{flat_map}
use Rattle.serde_json.specs.Data.{Data, null, string, array, object, member, no_members}
use Rattle.serde_json.specs.View.{items_of}
use Rattle.doc_text.specs.declared.position.Range.{Range}
use Rattle.lsp_rpc.specs.Diagnostic.{range_value}
use Rattle.lsp_rpc.specs.declared.location.DocumentRanges.{DocumentRanges}

-- a range of a document
pub record LocationData : Type 0 where
  pub range : Range
  pub uri : List ℕ

abbrev pub location_value : LocationData → Data
location_value l =
    object (member (codes "range") (range_value l.range)
    (member (codes "uri") (string l.uri) no_members))

-- the places, in order
abbrev pub locations_value : List LocationData → Data
locations_value ls = array (items_of (map location_value ls))

-- the same, or `null` where there is no answer
abbrev pub locations_or_null : Option (List LocationData) → Data
locations_or_null None = null
locations_or_null (Some ls) = locations_value ls

-- ---- the Rust type beside this

abbrev pub locations_at : List ℕ → List Range → List LocationData
locations_at uri ranges = map (λ r. record { range = r; uri = uri }) ranges

-- the ranges of a document
abbrev pub document_locations : DocumentRanges → List LocationData
document_locations d = locations_at (string_bytes d.uri) d.ranges.items

abbrev pub all_locations : List DocumentRanges → List LocationData
all_locations ds = flat_map document_locations ds
