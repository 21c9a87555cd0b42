-- What an editor can do, as the params of `initialize` say: Language Server Protocol 3.17, "ClientCapabilities". Members that are
-- not named here are ignored.
use Rattle.std.specs.Prelude.{List, Bool, false, not, Option, filter_map, slice_index_or, option_and_then, codes}
use Rattle.serde_json.specs.Data.{Data}
use Rattle.serde_json.specs.Find.{as_str}
use Rattle.doc_text.specs.declared.encoding.Encoding.{Encoding}
use Rattle.doc_text.specs.declared.encoding.Encoding.TheVariants.{Utf16}
use Rattle.lsp_rpc.specs.Body.{is_null, member_or_null, items_in}
use Rattle.lsp_rpc.specs.Encoding.{encoding_named}
use Rattle.lsp_rpc.specs.declared.client_capabilities.ClientCapabilities.{ClientCapabilities}

-- the position encoding, and whether the editor asks for diagnostics
pub record ClientData : Type 0 where
  pub encoding : Encoding
  pub pulls_diagnostics : Bool

abbrev pub capabilities_of : Data → Data
capabilities_of params = member_or_null (codes "capabilities") params

-- the entries of `capabilities.general.positionEncodings`, in order; none if there is no such array
abbrev pub position_encodings : Data → List Data
position_encodings params = items_in (member_or_null (codes "positionEncodings") (member_or_null (codes "general") (capabilities_of params)))

-- the encoding that an entry names; what isn't a string names none
abbrev pub encoding_in : Data → Option Encoding
encoding_in entry = option_and_then encoding_named (as_str entry)

-- the first encoding that an entry names, or UTF-16 if none of them names one
abbrev pub first_encoding : List Data → Encoding
first_encoding entries = slice_index_or (filter_map encoding_in entries) 0 Utf16

-- whether `capabilities.textDocument.diagnostic` is there and isn't `null`
abbrev pub pulls_diagnostics : Data → Bool
pulls_diagnostics params = not (is_null (member_or_null (codes "diagnostic") (member_or_null (codes "textDocument") (capabilities_of params))))

abbrev pub client_of : Data → ClientData
client_of params = record { encoding = first_encoding (position_encodings params); pulls_diagnostics = pulls_diagnostics params }

-- an editor that says nothing
abbrev pub default_client : ClientData
default_client = record { encoding = Utf16; pulls_diagnostics = false }

-- ---- the Rust type beside this

abbrev pub client_view : ClientCapabilities → ClientData
client_view c = record { encoding = c.encoding; pulls_diagnostics = c.pulls_diagnostics }
