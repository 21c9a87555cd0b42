-- The declarations of a tree.
use Rattle.std.specs.Prelude.{ℕ, ◌+◌, List, [], ◌∷◌, ◌++◌, Option, Some, length, map}
use Rattle.proto_tree.specs.declared.node.Span.{Span}
use Rattle.proto_tree.specs.declared.node.Node.{Node}
use Rattle.proto_tree.specs.declared.node.Node.TheOpen.{Node-F}
use Rattle.proto_tree.specs.declared.node.Node.TheFolds.{fold-Node}
use Rattle.proto_decls.specs.declared.fact.Decl.{Decl}
use Rattle.proto_decls.specs.declared.fact.DeclKind.{DeclKind}
use Rattle.proto_decls.specs.declared.fact.DeclKind.TheVariants as kind
use Rattle.proto_decls.specs.Text.{text_at, joined}

-- What is declared at a place: that of a field is a field or an extension; the place has a scope, the
-- declaration whose body it is, if any, and the number that comes next.
abbrev pub Placed : Type 0
Placed = DeclKind → List ℕ → Option ℕ → ℕ → List Decl

-- one after the other
abbrev pub in_turn : List Placed → Placed
in_turn [] members scope parent next = []
in_turn (d ∷ ds) members scope parent next = d members scope parent next ++ in_turn ds members scope parent (next + length (d members scope parent next))

module _ (text : List ℕ) where
  abbrev pub declared : DeclKind → Span → List ℕ → Option ℕ → Decl
  declared k name scope parent = record { kind = k; full_name = joined scope (text_at text name); name_span = name; parent = parent }

  -- One level, with what is declared in each statement inside. A message and a service are scopes of what they hold.
  abbrev pub decls_step : Node-F Placed → Placed
  decls_step (Node-F.Message span name items) members scope parent next =
      declared kind.Message name scope parent ∷ in_turn items kind.Field (joined scope (text_at text name)) (Some next) (next + 1)
  decls_step (Node-F.Service span name items) members scope parent next =
      declared kind.Service name scope parent ∷ in_turn items kind.Field (joined scope (text_at text name)) (Some next) (next + 1)
  decls_step (Node-F.EnumDef span name items) members scope parent next =
      declared kind.EnumDef name scope parent ∷ in_turn items kind.Field scope (Some next) (next + 1)
  decls_step (Node-F.Oneof span name items) members scope parent next =
      declared kind.Oneof name scope parent ∷ in_turn items kind.Field scope (Some next) (next + 1)
  decls_step (Node-F.Extend span target items) members scope parent next = in_turn items kind.Extension scope parent next
  decls_step (Node-F.Rpc span name request response items) members scope parent next = declared kind.Rpc name scope parent ∷ []
  decls_step (Node-F.Field f) members scope parent next = declared members f.name scope parent ∷ []
  decls_step (Node-F.MapField f) members scope parent next = declared members f.name scope parent ∷ []
  decls_step (Node-F.Value span name number) members scope parent next = declared kind.Value name scope parent ∷ []
  decls_step _ members scope parent next = []

  -- The declarations of a statement and of all inside it: its own, if it has one, and then those inside it, in the order in
  -- which the tree has them.
  abbrev pub decls_of : Node → Placed
  decls_of = fold-Node Placed decls_step

  abbrev pub decls_in : List Node → Placed
  decls_in nodes = in_turn (map decls_of nodes)

  -- a message or a service of that name, and what is declared in it: the two are scopes of what they hold
  abbrev pub scope_decls : DeclKind → Span → List Node → List ℕ → Option ℕ → ℕ → List Decl
  scope_decls k name items scope parent next = declared k name scope parent ∷ decls_in items kind.Field (joined scope (text_at text name)) (Some next) (next + 1)

  -- an enum or a oneof of that name, and what is declared in it
  abbrev pub block_decls : DeclKind → Span → List Node → List ℕ → Option ℕ → ℕ → List Decl
  block_decls k name items scope parent next = declared k name scope parent ∷ decls_in items kind.Field scope (Some next) (next + 1)
