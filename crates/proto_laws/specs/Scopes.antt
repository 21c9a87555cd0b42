-- The kinds of declarations, and the scopes that their full names lie in.
use Rattle.std.specs.Prelude.{◌≡◌, ◌⊎◌, ℕ, List, Option, Some, None, Contains}
use Rattle.std.specs.List.{Any, slice_get}
use Rattle.proto_tree.specs.declared.node.Span.{Span}
use Rattle.proto_tree.specs.declared.node.Node.{Node, out-Node}
use Rattle.proto_tree.specs.declared.node.Node.TheOpen.{Node-F}
use Rattle.proto_decls.specs.declared.fact.Decl.{Decl}
use Rattle.proto_decls.specs.declared.fact.DeclKind.{DeclKind}
use Rattle.proto_decls.specs.declared.fact.DeclKind.TheVariants as kind
use Rattle.proto_decls.specs.declared.fact.FileFacts.{FileFacts}
use Rattle.proto_decls.specs.declared.fact.SyntaxFact.TheVariants.{Proto3}
use Rattle.proto_decls.specs.Facts.{package_name}
use Rattle.proto_decls.specs.Text.{joined, text_at}
use Rattle.proto_laws.specs.Parents.{members_of}

-- ---- kinds

-- What a statement declares: a kind and a name, if it declares one. What a field is, the body that it stands in says.
abbrev pub declared_by : DeclKind → Node-F Node → Option (DeclKind × Span)
declared_by members (Node-F.Message span name items) = Some (kind.Message, name)
declared_by members (Node-F.EnumDef span name items) = Some (kind.EnumDef, name)
declared_by members (Node-F.Service span name items) = Some (kind.Service, name)
declared_by members (Node-F.Oneof span name items) = Some (kind.Oneof, name)
declared_by members (Node-F.Rpc span name request response items) = Some (kind.Rpc, name)
declared_by members (Node-F.Field f) = Some (members, f.name)
declared_by members (Node-F.MapField f) = Some (members, f.name)
declared_by members (Node-F.Value span name number) = Some (kind.Value, name)
declared_by members _ = None

-- what a field in the body of a block is: in that of an `extend` block an extension
abbrev pub field_in : Node-F Node → DeclKind
field_in (Node-F.Extend span target items) = kind.Extension
field_in _ = kind.Field

-- a statement of the body, or of a block in it at any depth, declares the name, as one of that kind
pub data DeclaresAs : DeclKind → List Node → DeclKind → Span → Type 0 where
  by_statement : {members k : DeclKind} {body : List Node} {n : Node} {name : Span} → Contains body n → declared_by members (out-Node n) ≡ Some (k, name) → DeclaresAs members body k name
  in_block : {members k : DeclKind} {body : List Node} {block : Node} {name : Span} → Contains body block → DeclaresAs (field_in (out-Node block)) (members_of (out-Node block)) k name → DeclaresAs members body k name

-- ---- scopes

-- a message or a service: its full name is the scope of what its body declares
abbrev pub IsScope : DeclKind → Type 0
IsScope k = (k ≡ kind.Message) ⊎ (k ≡ kind.Service)

-- an enum or a oneof: what its body declares has the scope that it has itself
abbrev pub IsTransparent : DeclKind → Type 0
IsTransparent k = (k ≡ kind.EnumDef) ⊎ (k ≡ kind.Oneof)

-- The scope of a declaration, given its number. What the file itself declares has the package as its scope. What a message or a
-- service holds has the full name of that. An enum and a oneof add nothing: what they hold has their own scope.
pub data HasScope (package_is : List ℕ) (decls : List Decl) : ℕ → List ℕ → Type 0 where
  of_file : {i : ℕ} {d : Decl} → slice_get decls i ≡ Some d → d.parent ≡ None → HasScope package_is decls i package_is
  of_scope : {i p : ℕ} {d outer : Decl} → slice_get decls i ≡ Some d → d.parent ≡ Some p → slice_get decls p ≡ Some outer → IsScope outer.kind → HasScope package_is decls i outer.full_name
  of_block : {i p : ℕ} {d outer : Decl} {scope : List ℕ} → slice_get decls i ≡ Some d → d.parent ≡ Some p → slice_get decls p ≡ Some outer → IsTransparent outer.kind → HasScope package_is decls p scope → HasScope package_is decls i scope

-- ---- the law

-- Each declaration has one scope, and its full name is that scope and its own name, joined. Its kind is that of the statement that
-- declares its name. In a file that is analysed each name that a statement declares is that of a declaration.
pub record NamesHaveScopes (text : List ℕ) (nodes : List Node) (facts : FileFacts) : Type 0 where
  pub scope : (i : ℕ) (d : Decl) → slice_get facts.decls i ≡ Some d → (s : List ℕ) × HasScope (package_name facts.«package») facts.decls i s
  pub only : (i : ℕ) (s t : List ℕ) → HasScope (package_name facts.«package») facts.decls i s → HasScope (package_name facts.«package») facts.decls i t → s ≡ t
  pub full_name : (i : ℕ) (d : Decl) (s : List ℕ) → slice_get facts.decls i ≡ Some d → HasScope (package_name facts.«package») facts.decls i s → d.full_name ≡ joined s (text_at text d.name_span)
  pub kind_is : (d : Decl) → Contains facts.decls d → DeclaresAs kind.Field nodes d.kind d.name_span
  pub declared : (k : DeclKind) (name : Span) → facts.syntax ≡ Proto3 → DeclaresAs kind.Field nodes k name → Any (λ d. (d.kind ≡ k) × (d.name_span ≡ name)) facts.decls
