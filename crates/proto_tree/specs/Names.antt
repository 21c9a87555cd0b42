-- The names of a tree: those that its statements declare, the names of types, and those of packages.
use Rattle.std.specs.Prelude.{List, [], ◌∷◌, ◌++◌, map}
use Rattle.std.specs.List.{flat_map}
use Rattle.proto_tree.specs.declared.node.Span.{Span}
use Rattle.proto_tree.specs.declared.node.TypeName.{TypeName}
use Rattle.proto_tree.specs.declared.node.Node.{Node}
use Rattle.proto_tree.specs.declared.node.Node.TheOpen.{Node-F}
use Rattle.proto_tree.specs.declared.node.Node.TheFolds.{fold-Node}

abbrev pub joined : {X : Type 0} → List (List X) → List X
joined [] = []
joined (names ∷ more) = names ++ joined more

-- One level: the name that a statement declares, if any, and behind it those of the statements between its braces. Between
-- the braces of an rpc no statement declares a name.
abbrev pub names_step : Node-F (List Span) → List Span
names_step (Node-F.Message span name items) = name ∷ joined items
names_step (Node-F.EnumDef span name items) = name ∷ joined items
names_step (Node-F.Service span name items) = name ∷ joined items
names_step (Node-F.Oneof span name items) = name ∷ joined items
names_step (Node-F.Extend span target items) = joined items
names_step (Node-F.Rpc span name request response items) = name ∷ []
names_step (Node-F.Field f) = f.name ∷ []
names_step (Node-F.MapField f) = f.name ∷ []
names_step (Node-F.Value span name number) = name ∷ []
names_step _ = []

-- the name that a statement declares, and those of all statements inside it, in the order in which the tree has them
abbrev pub names_of : Node → List Span
names_of = fold-Node (List Span) names_step

abbrev pub names_in : List Node → List Span
names_in nodes = joined (map names_of nodes)

-- ---- type names

-- One level: the types of fields, of the values of maps and of an rpc, the target of an extend block, and behind them those
-- of the statements between the braces.
abbrev pub type_names_step : Node-F (List TypeName) → List TypeName
type_names_step (Node-F.Message span name items) = joined items
type_names_step (Node-F.EnumDef span name items) = joined items
type_names_step (Node-F.Service span name items) = joined items
type_names_step (Node-F.Oneof span name items) = joined items
type_names_step (Node-F.Extend span target items) = target ∷ joined items
type_names_step (Node-F.Rpc span name request response items) = request ∷ response ∷ []
type_names_step (Node-F.Field f) = f.type_name ∷ []
type_names_step (Node-F.MapField f) = f.value ∷ []
type_names_step _ = []

-- the type names of a statement and of all statements inside it, in the order in which the tree has them
abbrev pub type_names_of : Node → List TypeName
type_names_of = fold-Node (List TypeName) type_names_step

abbrev pub type_names_in : List Node → List TypeName
type_names_in nodes = joined (map type_names_of nodes)

-- the identifiers of type names, in order
abbrev pub components_of : List TypeName → List Span
components_of types = flat_map (λ t. t.components) types

abbrev pub type_components_in : List Node → List Span
type_components_in nodes = components_of (type_names_in nodes)

-- ---- names of packages

-- the identifiers of a `package` statement; between braces there is none
abbrev pub package_components_step : Node-F (List Span) → List Span
package_components_step (Node-F.Package span name components) = components
package_components_step _ = []

abbrev pub package_components_of : Node → List Span
package_components_of = fold-Node (List Span) package_components_step

-- those of the `package` statements of a file, in order
abbrev pub package_components_in : List Node → List Span
package_components_in nodes = joined (map package_components_of nodes)
