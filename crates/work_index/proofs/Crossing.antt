-- What goes from one thread to another: the work on a text.
use denote.Param.Send.{IsSend, sendable, struct_send}
use denote.Struct.Declared.{shape}
use Rattle.std.proofs.Crossing.{crosses}
use Rattle.proto_tree.specs.contracts.node.FileTree as FileTree
use Rattle.proto_tree.specs.contracts.node.Node as Node
use Rattle.proto_tree.proofs.node.Node.TheLaws.TheKnot as knot
use Rattle.proto_tree.proofs.node.Fault.TheSendSync as Fault
use Rattle.proto_tree.proofs.node.Field.TheSendSync as Field
use Rattle.proto_tree.proofs.node.Literal.TheSendSync as Literal
use Rattle.proto_tree.proofs.node.MapField.TheSendSync as MapField
use Rattle.proto_tree.proofs.node.Number.TheSendSync as Number
use Rattle.proto_tree.proofs.node.ReservedList.TheSendSync as ReservedList
use Rattle.proto_tree.proofs.node.Span.TheSendSync as Span
use Rattle.proto_tree.proofs.node.TypeName.TheSendSync as TypeName
use Rattle.sqlite_items.proofs.boxed.Boxed.TheSendSync as Boxed
use Rattle.sqlite_items.proofs.items.Items.TheSendSync as Items
use Rattle.proto_decls.proofs.shared_facts.SharedFacts.TheSendSync as SharedFacts
use Rattle.work_links.proofs.asked.Asked.TheSendSync as Asked
use Rattle.work_index.specs.contracts.file_work.FileOut as FileOut
use Rattle.work_index.specs.contracts.file_work.KnownText as KnownText

node_send : IsSend Node.the_row
node_send = search (knot.send-Node, sendable, Boxed.the_send, Items.the_send, Span.the_field_send, Span.the_send, TypeName.the_send, Field.the_send, MapField.the_send, Number.the_send, ReservedList.the_send, Literal.the_send) depth 20

tree_field_send : IsSend (FileTree.the_field).row
tree_field_send = search (sendable, node_send, Items.the_send, Fault.the_send) depth 20

known_field_send : IsSend (KnownText.the_field).row
known_field_send = struct_send (shape KnownText.the_type) (search (sendable, SharedFacts.the_send) depth 20, (search (sendable, crosses, Asked.the_send, Asked.the_sync) depth 40, tt))

known_send : IsSend KnownText.the_row
known_send = search (sendable, known_field_send) depth 20

out_field_send : IsSend (FileOut.the_field).row
out_field_send = struct_send (shape FileOut.the_type) (tree_field_send, (known_field_send, (search (sendable, crosses, known_send) depth 40, tt)))

pub out_send : IsSend FileOut.the_row
out_send = search (sendable, out_field_send) depth 20
