-- The names of a tree, by offset.
use Rattle.std.specs.Prelude.{ℕ, ◌==◌, ◌&&◌, not, Bool, true, false, List, [], ◌∷◌, ◌++◌, length, map, slice_index_or, bytes_eq, codes, if◌then◌else◌, Option, Some, None}
use Rattle.std.specs.List.{list_any}
use Rattle.proto_tree.specs.declared.node.Span.{Span}
use Rattle.proto_tree.specs.declared.node.TypeName.{TypeName}
use Rattle.proto_tree.specs.declared.node.Node.{Node}
use Rattle.proto_tree.specs.declared.node.Node.TheOpen.{Node-F}
use Rattle.proto_tree.specs.declared.node.Node.TheFolds.{fold-Node}
use Rattle.proto_resolve.specs.declared.site.Component.{Component}
use Rattle.proto_resolve.specs.declared.site.NameSite.{NameSite}
use Rattle.proto_resolve.specs.declared.site.Needs.{Needs}
use Rattle.proto_resolve.specs.declared.site.Needs.TheVariants as needs
use Rattle.proto_decls.specs.declared.fact.FileFacts.{FileFacts}
use Rattle.proto_decls.specs.declared.fact.PackageFact.{PackageFact}
use Rattle.proto_decls.specs.declared.fact.SyntaxFact.{SyntaxFact}
use Rattle.proto_decls.specs.declared.fact.SyntaxFact.TheVariants.{Proto3}
use Rattle.proto_decls.specs.Text.{joined, text_at}

-- The names that stand somewhere, given their scopes, innermost first.
abbrev pub Named : Type 0
Named = List (List ℕ) → List NameSite

-- one after the other
abbrev pub in_turn : List Named → Named
in_turn [] scopes = []
in_turn (n ∷ ns) scopes = n scopes ++ in_turn ns scopes

abbrev pub component : List ℕ → Span → Component
component text s = record { text = text_at text s; span = s }

-- a type's name, where it stands in these scopes
abbrev pub site : List ℕ → Needs → TypeName → List (List ℕ) → NameSite
site text wants t scopes =
    record { span = t.span; is_absolute = t.is_absolute; components = map (component text) t.components; scopes = scopes; needs = wants }

-- the words of the scalar types
abbrev pub is_scalar_word : List ℕ → Bool
is_scalar_word word = list_any (bytes_eq word) (codes "double" ∷ codes "float" ∷ codes "int32" ∷ codes "int64" ∷ codes "uint32" ∷ codes "uint64" ∷ codes "sint32" ∷ codes "sint64" ∷ codes "fixed32" ∷ codes "fixed64" ∷ codes "sfixed32" ∷ codes "sfixed64" ∷ codes "bool" ∷ codes "string" ∷ codes "bytes" ∷ [])

-- whether a type is a scalar: one word of the list, without a dot
abbrev pub is_scalar : List ℕ → TypeName → Bool
is_scalar text t = not t.is_absolute && (length t.components == 1) && is_scalar_word (text_at text (slice_index_or t.components 0 (record { start = 0; end = 0 })))

-- the innermost scope of a body, put before the outer ones
abbrev pub inner : List ℕ → Span → List (List ℕ) → List (List ℕ)
inner text name scopes = joined (slice_index_or scopes 0 []) (text_at text name) ∷ scopes

module _ (text : List ℕ) where
  -- the type of a field or a map value is a name unless it is a scalar
  abbrev pub type_names : TypeName → Named
  type_names t scopes = if is_scalar text t then [] else site text needs.MessageOrEnum t scopes ∷ []

  -- One level, with the names of each statement inside. A message and a service are scopes of what they hold.
  abbrev pub names_step : Node-F Named → Named
  names_step (Node-F.Message span name items) scopes = in_turn items (inner text name scopes)
  names_step (Node-F.Service span name items) scopes = in_turn items (inner text name scopes)
  names_step (Node-F.Oneof span name items) scopes = in_turn items scopes
  names_step (Node-F.Extend span target items) scopes = site text needs.Message target scopes ∷ in_turn items scopes
  names_step (Node-F.Rpc span name request response items) scopes = site text needs.Message request scopes ∷ site text needs.Message response scopes ∷ []
  names_step (Node-F.Field f) scopes = type_names f.type_name scopes
  names_step (Node-F.MapField f) scopes = type_names f.value scopes
  names_step _ scopes = []

  -- the names of a statement and of all inside it
  abbrev pub names_of : Node → Named
  names_of = fold-Node Named names_step

  abbrev pub names_in : List Node → Named
  names_in nodes = in_turn (map names_of nodes)

-- The scopes within a package, innermost first: each component adds one before those of the components before it.
abbrev pub scopes_after : List ℕ → List (List ℕ) → List Span → List (List ℕ)
scopes_after text scopes [] = scopes
scopes_after text scopes (s ∷ more) = scopes_after text (inner text s scopes) more

abbrev pub package_scopes : List ℕ → Option PackageFact → List (List ℕ)
package_scopes text None = [] ∷ []
package_scopes text (Some p) = scopes_after text ([] ∷ []) p.components

abbrev pub is_proto3 : SyntaxFact → Bool
is_proto3 Proto3 = true
is_proto3 _ = false

-- the names of a file, if it is a proto3 file
abbrev pub names_of_file : List ℕ → FileFacts → List Node → List NameSite
names_of_file text facts nodes = if is_proto3 facts.syntax then names_in text nodes (package_scopes text facts.«package») else []
