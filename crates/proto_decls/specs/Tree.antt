-- The statements of a tree.
use Rattle.std.specs.Prelude.{List, [], ◌∷◌, ◌++◌, map}
use Rattle.proto_tree.specs.declared.node.Node.{Node, map-Node, out-Node, roll-Node}
use Rattle.proto_tree.specs.declared.node.Node.TheOpen.{Node-F}
use Rattle.proto_tree.specs.declared.node.Node.TheFolds.{fold-Node}

-- what stands between the braces of a block
abbrev pub inside_of : {A : Type 0} → Node-F A → List A
inside_of (Node-F.Message span name items) = items
inside_of (Node-F.EnumDef span name items) = items
inside_of (Node-F.Service span name items) = items
inside_of (Node-F.Oneof span name items) = items
inside_of (Node-F.Extend span target items) = items
inside_of (Node-F.Rpc span name request response items) = items
inside_of _ = []

abbrev pub inside : Node → List Node
inside n = inside_of (out-Node n)

-- a statement, with all those inside it at any depth
abbrev pub Seen : Type 0
Seen = Node × List Node

abbrev pub all_of : List Seen → List Node
all_of [] = []
all_of (s ∷ more) = s.0 ∷ s.1 ++ all_of more

-- one level put together again
abbrev pub itself : Node-F Seen → Node
itself layer = roll-Node (map-Node Seen Node (λ s. s.0) layer)

abbrev pub seen_step : Node-F Seen → Seen
seen_step layer = (itself layer, all_of (inside_of layer))

abbrev pub seen : Node → Seen
seen = fold-Node Seen seen_step

-- each statement of a list, followed by those inside it
abbrev pub all_statements : List Node → List Node
all_statements nodes = all_of (map seen nodes)
