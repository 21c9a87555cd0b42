-- Where a statement starts: at the start of its span, whichever kind it is.
use Rattle.std.specs.Prelude.{ℕ}
use Rattle.proto_tree.specs.declared.node.Node.{Node}
use Rattle.proto_tree.specs.declared.node.Node.TheOpen.{Node-F}

abbrev pub start_of : Node-F Node → ℕ
start_of (Node-F.Message span name items) = span.start
start_of (Node-F.EnumDef span name items) = span.start
start_of (Node-F.Service span name items) = span.start
start_of (Node-F.Oneof span name items) = span.start
start_of (Node-F.Extend span target items) = span.start
start_of (Node-F.Rpc span name request response items) = span.start
start_of (Node-F.Field f) = f.span.start
start_of (Node-F.MapField f) = f.span.start
start_of (Node-F.Value span name number) = span.start
start_of (Node-F.Reserved span list) = span.start
start_of (Node-F.Import span is_public path) = span.start
start_of (Node-F.Package span name components) = span.start
start_of (Node-F.OptionDef span name value) = span.start
start_of (Node-F.Syntax span value) = span.start
start_of (Node-F.Empty span) = span.start
