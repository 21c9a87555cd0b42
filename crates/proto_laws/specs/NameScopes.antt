-- The law of the names of a file: which types are names, and the scopes in which each is looked up.
use Rattle.std.specs.Prelude.{◌≡◌, ◌↔◌, ℕ, ◌≤◌, ◌+◌, ◌-◌, List, [], ◌∷◌, false, Some, None, Contains, length, map, take}
use Rattle.std.specs.List.{slice_get}
use Rattle.proto_tree.specs.declared.node.Field.{Field}
use Rattle.proto_tree.specs.declared.node.MapField.{MapField}
use Rattle.proto_tree.specs.declared.node.Span.{Span}
use Rattle.proto_tree.specs.declared.node.TypeName.{TypeName}
use Rattle.proto_tree.specs.declared.node.Node.{Node, out-Node}
use Rattle.proto_tree.specs.declared.node.Node.TheOpen.{Node-F}
use Rattle.proto_decls.specs.declared.fact.FileFacts.{FileFacts}
use Rattle.proto_decls.specs.declared.fact.PackageFact.{PackageFact}
use Rattle.proto_decls.specs.declared.fact.SyntaxFact.TheVariants.{Proto3}
use Rattle.proto_decls.specs.Text.{joined, text_at}
use Rattle.proto_resolve.specs.declared.site.NameSite.{NameSite}
use Rattle.proto_resolve.specs.declared.site.Needs.{Needs}
use Rattle.proto_resolve.specs.declared.site.Needs.TheVariants as needs
use Rattle.proto_resolve.specs.Names.{joined_all}
use Rattle.proto_resolve.specs.Sites.{is_scalar, names_of_file, package_scopes, site}

-- A type that a statement names, and what it has to be: that of a field or of a map's values, unless it is a scalar, the target of an
-- `extend` block, and both types of an rpc.
pub data NamesType (text : List ℕ) (n : Node) : TypeName → Needs → Type 0 where
  of_field : {f : Field} → out-Node n ≡ Node-F.Field f → is_scalar text f.type_name ≡ false → NamesType text n f.type_name needs.MessageOrEnum
  of_map : {f : MapField} → out-Node n ≡ Node-F.MapField f → is_scalar text f.value ≡ false → NamesType text n f.value needs.MessageOrEnum
  of_extend : {span : Span} {target : TypeName} {items : List Node} → out-Node n ≡ Node-F.Extend span target items → NamesType text n target needs.Message
  of_request : {span name : Span} {request response : TypeName} {items : List Node} → out-Node n ≡ Node-F.Rpc span name request response items → NamesType text n request needs.Message
  of_response : {span name : Span} {request response : TypeName} {items : List Node} → out-Node n ≡ Node-F.Rpc span name request response items → NamesType text n response needs.Message

-- A statement stands in the body, at any depth, and in these scopes, innermost first, where what the body itself holds stands in the
-- first ones. A message and a service put their full name before the scopes that they stand in; an `extend` block and a oneof add none.
pub data StandsInScopes (text : List ℕ) : List (List ℕ) → List Node → Node → List (List ℕ) → Type 0 where
  here : {scopes : List (List ℕ)} {body : List Node} {n : Node} → Contains body n → StandsInScopes text scopes body n scopes
  in_message : {scope : List ℕ} {outer scopes : List (List ℕ)} {body items : List Node} {block n : Node} {span name : Span} → Contains body block → out-Node block ≡ Node-F.Message span name items
      → StandsInScopes text (joined scope (text_at text name) ∷ scope ∷ outer) items n scopes → StandsInScopes text (scope ∷ outer) body n scopes
  in_service : {scope : List ℕ} {outer scopes : List (List ℕ)} {body items : List Node} {block n : Node} {span name : Span} → Contains body block → out-Node block ≡ Node-F.Service span name items
      → StandsInScopes text (joined scope (text_at text name) ∷ scope ∷ outer) items n scopes → StandsInScopes text (scope ∷ outer) body n scopes
  in_extend : {outer scopes : List (List ℕ)} {body items : List Node} {block n : Node} {span : Span} {target : TypeName} → Contains body block → out-Node block ≡ Node-F.Extend span target items
      → StandsInScopes text outer items n scopes → StandsInScopes text outer body n scopes
  in_oneof : {outer scopes : List (List ℕ)} {body items : List Node} {block n : Node} {span name : Span} → Contains body block → out-Node block ≡ Node-F.Oneof span name items
      → StandsInScopes text outer items n scopes → StandsInScopes text outer body n scopes

-- a name of the body: its type, its kind and its scopes
pub record IsName (text : List ℕ) (outer : List (List ℕ)) (body : List Node) (found : NameSite) : Type 0 where
  pub statement : Node
  pub type_name : TypeName
  pub wants : Needs
  pub scopes : List (List ℕ)
  pub stands : StandsInScopes text outer body statement scopes
  pub names : NamesType text statement type_name wants
  pub is : found ≡ site text wants type_name scopes

-- ---- the laws

-- the names of a file are these, in a proto3 file, and no others
abbrev pub NamesStandInScopes : Type 0
NamesStandInScopes =
    (text : List ℕ) (facts : FileFacts) (nodes : List Node) (found : NameSite) → Contains (names_of_file text facts nodes) found ↔ ((facts.syntax ≡ Proto3) × IsName text (package_scopes text facts.«package») nodes found)

-- The scopes of the file itself: without a package the empty one. With a package of n components there are n + 1: the package, its
-- shorter prefixes, each of the first k components, and the empty one.
abbrev pub NoPackageIsEmpty : Type 0
NoPackageIsEmpty = (text : List ℕ) → package_scopes text None ≡ [] ∷ []

pub record ArePrefixes (text : List ℕ) (components : List Span) (scopes : List (List ℕ)) : Type 0 where
  pub count : length scopes ≡ length components + 1
  pub each : (k : ℕ) → k ≤ length components → slice_get scopes (length components - k) ≡ Some (joined_all [] (map (text_at text) (take k components)))

abbrev pub PackagesArePrefixes : Type 0
PackagesArePrefixes = (text : List ℕ) (p : PackageFact) → ArePrefixes text p.components (package_scopes text (Some p))
