-- Which declaration's body holds another one.
use Rattle.std.specs.Prelude.{◌≡◌, ℕ, ◌<◌, List, [], Option, Some, None, Contains, get_or, length}
use Rattle.proto_tree.specs.declared.node.Span.{Span}
use Rattle.proto_tree.specs.declared.node.Node.{Node, out-Node}
use Rattle.proto_tree.specs.declared.node.Node.TheOpen.{Node-F}
use Rattle.proto_decls.specs.declared.fact.Decl.{Decl}
use Rattle.proto_decls.specs.declared.fact.DeclKind.{DeclKind}
use Rattle.proto_decls.specs.declared.fact.DeclKind.TheVariants as kind

-- the name that a statement declares, if any
abbrev pub name_of : Node-F Node → Option Span
name_of (Node-F.Message span name items) = Some name
name_of (Node-F.EnumDef span name items) = Some name
name_of (Node-F.Service span name items) = Some name
name_of (Node-F.Oneof span name items) = Some name
name_of (Node-F.Rpc span name request response items) = Some name
name_of (Node-F.Field f) = Some f.name
name_of (Node-F.MapField f) = Some f.name
name_of (Node-F.Value span name number) = Some name
name_of _ = None

-- A block whose body holds declarations: its kind and its name. An rpc's block holds none, and an `extend` block has no name.
abbrev pub block_of : Node-F Node → Option (DeclKind × Span)
block_of (Node-F.Message span name items) = Some (kind.Message, name)
block_of (Node-F.EnumDef span name items) = Some (kind.EnumDef, name)
block_of (Node-F.Service span name items) = Some (kind.Service, name)
block_of (Node-F.Oneof span name items) = Some (kind.Oneof, name)
block_of _ = None

-- the statements of a block whose body holds declarations, or of an `extend` block
abbrev pub members_of : Node-F Node → List Node
members_of (Node-F.Message span name items) = items
members_of (Node-F.EnumDef span name items) = items
members_of (Node-F.Service span name items) = items
members_of (Node-F.Oneof span name items) = items
members_of (Node-F.Extend span target items) = items
members_of _ = []

-- the statements of an `extend` block
abbrev pub extensions_of : Node-F Node → Option (List Node)
extensions_of (Node-F.Extend span target items) = Some items
extensions_of _ = None

-- The body declares the name itself: by one of its statements, or in an `extend` block that is one. What its other blocks
-- declare is theirs.
pub data Declares : List Node → Span → Type 0 where
  by_statement : {body : List Node} {n : Node} {name : Span} → Contains body n → name_of (out-Node n) ≡ Some name → Declares body name
  by_extend : {body : List Node} {n : Node} {items : List Node} {name : Span} → Contains body n → extensions_of (out-Node n) ≡ Some items → Declares items name → Declares body name

-- the statement stands in the body, or in a block in it, at any depth
pub data StandsIn : List Node → Node → Type 0 where
  here : {body : List Node} {n : Node} → Contains body n → StandsIn body n
  deeper : {body : List Node} {block n : Node} → Contains body block → StandsIn (members_of (out-Node block)) n → StandsIn body n

-- the first declaration is that of a block of the tree, a message, an enum, a service or a oneof, whose body declares the second
pub record Holds (nodes : List Node) (outer inner : Decl) : Type 0 where
  pub block : Node
  pub stands : StandsIn nodes block
  pub is_its : block_of (out-Node block) ≡ Some (outer.kind, outer.name_span)
  pub declares : Declares (members_of (out-Node block)) inner.name_span

-- A declaration's parent stands before it and holds it. A declaration that holds it is its parent, so that without a parent none
-- does; then the file itself declares it.
pub record ParentsHold (nodes : List Node) (decls : List Decl) : Type 0 where
  pub holds : (i p : ℕ) (d : Decl) → i < length decls → (get_or decls i d).parent ≡ Some p → (p < i) × Holds nodes (get_or decls p d) (get_or decls i d)
  pub only : (i p : ℕ) (d : Decl) → i < length decls → p < length decls → Holds nodes (get_or decls p d) (get_or decls i d) → (get_or decls i d).parent ≡ Some p
  pub top : (i : ℕ) (d : Decl) → i < length decls → (get_or decls i d).parent ≡ None → Declares nodes (get_or decls i d).name_span
