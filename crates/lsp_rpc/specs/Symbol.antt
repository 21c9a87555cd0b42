-- Declarations on the wire: Language Server Protocol 3.17, "WorkspaceSymbol". The keys of each object stand in the order of
-- their bytes.
use Rattle.std.specs.Prelude.{ℕ, List, [], ◌∷◌, map, codes, string_bytes}
use Rattle.std.specs.List.{flat_map}
use Rattle.json.specs.Token.{Token}
use Rattle.serde_json.specs.Data.{Data, Members, number, unsigned, string, array, object, member, no_members}
use Rattle.serde_json.specs.View.{items_of}
use Rattle.lsp_rpc.specs.Location.{LocationData, location_value}
use Rattle.lsp_rpc.specs.declared.symbol.DocumentSymbols.{DocumentSymbols}
use Rattle.lsp_rpc.specs.declared.symbol.Symbol.{Symbol}
use Rattle.lsp_rpc.specs.declared.symbol.SymbolKind.{SymbolKind}
use Rattle.lsp_rpc.specs.declared.symbol.SymbolKind.TheVariants as kind

-- the protocol's numbers ("SymbolKind")
abbrev pub kind_number : SymbolKind → ℕ
kind_number kind.Method = 6
kind_number kind.Property = 7
kind_number kind.Field = 8
kind_number kind.Enum = 10
kind_number kind.Interface = 11
kind_number kind.EnumMember = 22
kind_number kind.Struct = 23

-- a declaration: the last component of its name, the scope that holds it, which may be empty, and where its name stands
pub record SymbolData : Type 0 where
  pub name : List ℕ
  pub container : List ℕ
  pub kind : SymbolKind
  pub location : LocationData

-- the empty scope isn't written
abbrev pub with_container : List ℕ → Members → Members
with_container [] members = members
with_container (c ∷ cs) members = member (codes "containerName") (string (c ∷ cs)) members

abbrev pub symbol_value : SymbolData → Data
symbol_value s =
    object (with_container s.container
    (member (codes "kind") (number (unsigned (kind_number s.kind)))
    (member (codes "location") (location_value s.location)
    (member (codes "name") (string s.name) no_members))))

-- the declarations, in order
abbrev pub symbols_value : List SymbolData → Data
symbols_value ss = array (items_of (map symbol_value ss))

-- the tokens of that member, for private clauses
abbrev pub container_tokens : List ℕ → List Token
container_tokens [] = []
container_tokens (c ∷ cs) = Token.key (codes "containerName") ∷ Token.string (c ∷ cs) ∷ []

-- ---- the Rust types beside these

abbrev pub symbol_view : List ℕ → Symbol → SymbolData
symbol_view uri s = record { name = s.name.now; container = s.container.now; kind = s.kind; location = record { range = s.range; uri = uri } }

-- the declarations of a document
abbrev pub document_symbols : DocumentSymbols → List SymbolData
document_symbols d = map (symbol_view (string_bytes d.uri)) d.symbols.items

abbrev pub all_symbols : List DocumentSymbols → List SymbolData
all_symbols ds = flat_map document_symbols ds
