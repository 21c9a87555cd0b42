-- The params of requests about names. Members that are not named here are ignored.
use Rattle.std.specs.Prelude.{ℕ, List, Bool, false, Option, Some, None, option_map, option_and_then, codes}
use Rattle.serde_json.specs.Data.{Data}
use Rattle.serde_json.specs.Find.{get, as_bool, as_object}
use Rattle.doc_text.specs.declared.position.Position.{Position}
use Rattle.lsp_rpc.specs.Body.{member_or_null, text_member}
use Rattle.lsp_rpc.specs.Params.{uri_of, position_in}
use Rattle.lsp_rpc.specs.declared.request_params.DocumentPosition.{DocumentPosition}
use Rattle.lsp_rpc.specs.declared.request_params.ReferenceParams.{ReferenceParams}
use Rattle.lsp_rpc.specs.declared.request_params.RenameParams.{RenameParams}

-- `query`, what a name has to contain
abbrev pub query_of : Data → Option (List ℕ)
query_of params = text_member (codes "query") params

-- `textDocument {uri}` and `position`, a place in a document
pub record PlaceData : Type 0 where
  pub uri : List ℕ
  pub position : Position

abbrev pub place_of : Data → Option PlaceData
place_of params =
    option_and_then (λ uri.
    option_map (λ position. record { uri = uri; position = position })
    (position_in (member_or_null (codes "position") params)))
    (uri_of params)

-- a flag that is false if it is missing; one that is there has to be a boolean
abbrev pub flag_in : Option Data → Option Bool
flag_in None = Some false
flag_in (Some d) = as_bool d

-- `context {includeDeclaration}`, of which both may be missing; a `context` that is there has to be an object
abbrev pub includes_in : Option Data → Option Bool
includes_in None = Some false
includes_in (Some d) = option_and_then (λ members. flag_in (get (codes "includeDeclaration") d)) (as_object d)

-- a place, and whether the declaration is asked for too
pub record ReferenceData : Type 0 where
  pub place : PlaceData
  pub include_declaration : Bool

abbrev pub reference_of : Data → Option ReferenceData
reference_of params =
    option_and_then (λ place.
    option_map (λ include. record { place = place; include_declaration = include })
    (includes_in (get (codes "context") params)))
    (place_of params)

-- a place, and `newName`, the name that is to stand there
pub record RenameData : Type 0 where
  pub place : PlaceData
  pub new_name : List ℕ

abbrev pub rename_of : Data → Option RenameData
rename_of params =
    option_and_then (λ place.
    option_map (λ name. record { place = place; new_name = name })
    (text_member (codes "newName") params))
    (place_of params)

-- ---- the Rust types beside these

abbrev pub place_view : DocumentPosition → PlaceData
place_view p = record { uri = p.uri.now; position = p.position }

abbrev pub reference_view : ReferenceParams → ReferenceData
reference_view p = record { place = place_view p.place; include_declaration = p.include_declaration }

abbrev pub rename_view : RenameParams → RenameData
rename_view p = record { place = place_view p.place; new_name = p.new_name.now }
