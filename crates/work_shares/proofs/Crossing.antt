-- What goes from one thread to another: a share to the thread that links it, and what is made of it back; and what threads read side by side: the table of all
-- files, the work on their texts, and what is wrong in them.
use denote.Param.Send.{IsSend, IsSync, sendable, struct_send, struct_sync, recorded_send, recorded_sync, view_sync}
use denote.RattleType.{RattleType}
use denote.Struct.Declared.{shape}
use denote.Struct.Tuple.{TupleAt, type_at}
use mathlib.Core.List.{[], ◌∷◌}
use mir.Syntax.{Sym}
use Rattle.std.proofs.Crossing.{crosses}
use Rattle.proto_tree.specs.contracts.node.FileTree as FileTree
use Rattle.proto_tree.specs.contracts.node.Node as Node
use Rattle.proto_tree.proofs.node.Node.TheLaws.TheKnot as knot
use Rattle.proto_tree.proofs.node.Fault.TheSendSync as Fault
use Rattle.proto_tree.proofs.node.Field.TheSendSync as Field
use Rattle.proto_tree.proofs.node.Literal.TheSendSync as Literal
use Rattle.proto_tree.proofs.node.MapField.TheSendSync as MapField
use Rattle.proto_tree.proofs.node.Number.TheSendSync as Number
use Rattle.proto_tree.proofs.node.ReservedList.TheSendSync as ReservedList
use Rattle.proto_tree.proofs.node.Span.TheSendSync as Span
use Rattle.proto_tree.proofs.node.TypeName.TheSendSync as TypeName
use Rattle.sqlite_items.proofs.boxed.Boxed.TheSendSync as Boxed
use Rattle.sqlite_items.proofs.items.Items.TheSendSync as Items
use Rattle.proto_decls.proofs.shared_facts.SharedFacts.TheSendSync as SharedFacts
use Rattle.work_links.proofs.asked.Asked.TheSendSync as Asked
use Rattle.proto_resolve.proofs.table.Table.TheSendSync as Table
use Rattle.work_index.proofs.shared_links.SharedLinks.TheSendSync as SharedLinks
use Rattle.proto_decls.proofs.diagnostic.Diag.TheSendSync as Diag
use Rattle.proto_resolve.specs.contracts.table.Table as TableRow
use Rattle.work_index.specs.contracts.file_work.FileOut as FileOut
use Rattle.work_index.specs.contracts.file_work.KnownText as KnownText
use Rattle.std.specs.contracts.alloc.Global as Global
use Rattle.work_shares.specs.contracts.shares.Share as Share
use Rattle.work_shares.specs.contracts.linked.LinkedShare as LinkedShare
use Rattle.work_shares.specs.contracts.indexed.IndexedShare as IndexedShare
use Rattle.work_shares.proofs.part_table.PartTable.TheSendSync as PartTable
use Rattle.work_index.specs.contracts.analysis.Resolutions as Resolutions
use Rattle.work_shares.specs.contracts.diagnosis.Diagnosis as Diagnosis
use Rattle.work_shares.specs.contracts.diagnosis.Diagnosis.TheInside as inside
use Rattle.work_index.proofs.Crossing.{out_send}

node_sync : IsSync Node.the_row
node_sync = search (knot.sync-Node, sendable, Boxed.the_sync, Items.the_sync, Span.the_field_sync, Span.the_sync, TypeName.the_sync, Field.the_sync, MapField.the_sync, Number.the_sync, ReservedList.the_sync, Literal.the_sync) depth 20

tree_field_sync : IsSync (FileTree.the_field).row
tree_field_sync = search (sendable, node_sync, Items.the_sync, Fault.the_sync) depth 20

known_field_sync : IsSync (KnownText.the_field).row
known_field_sync = struct_sync (shape KnownText.the_type) (search (sendable, SharedFacts.the_sync) depth 20, (search (sendable, crosses, Asked.the_send, Asked.the_sync) depth 40, tt))

known_sync : IsSync KnownText.the_row
known_sync = search (sendable, known_field_sync) depth 20

out_field_sync : IsSync (FileOut.the_field).row
out_field_sync = struct_sync (shape FileOut.the_type) (tree_field_sync, (known_field_sync, (search (sendable, crosses, known_sync) depth 40, tt)))

pub out_sync : IsSync FileOut.the_row
out_sync = search (sendable, out_field_sync) depth 20

pub heap_send : IsSend Global.the_row
heap_send = search (sendable, crosses) depth 20

share_field_send : IsSend (Share.the_field).row
share_field_send = struct_send (shape Share.the_type) (search sendable, (search (sendable, crosses, out_send) depth 40, (search sendable, (search sendable, tt))))

pub table_sync : IsSync TableRow.the_row
table_sync = Table.the_sync

pub share_send : IsSend Share.the_row
share_send = search (sendable, share_field_send) depth 20

indexed_field_send : IsSend (IndexedShare.the_field).row
indexed_field_send = struct_send (shape IndexedShare.the_type) (share_field_send, (search (sendable, PartTable.the_send) depth 20, tt))

pub indexed_send : IsSend IndexedShare.the_row
indexed_send = search (sendable, indexed_field_send) depth 20

resolutions_field_send : IsSend (Resolutions.the_field).row
resolutions_field_send = struct_send (shape Resolutions.the_type) (search (sendable, crosses, SharedLinks.the_send) depth 40, (search (sendable, crosses, Items.the_send, Diag.the_send) depth 40, tt))

linked_field_send : IsSend (LinkedShare.the_field).row
linked_field_send = struct_send (shape LinkedShare.the_type) (search (sendable, crosses, out_send) depth 40, (resolutions_field_send, tt))

pub linked_send : IsSend LinkedShare.the_row
linked_send = search (sendable, linked_field_send) depth 20

pub diagnosis_sync : IsSync Diagnosis.the_row
diagnosis_sync = view_sync inside.the_row _ _ _ _
    (recorded_sync (inside.the_field).row _ _ (inside.the_type).to_one
    (struct_sync (shape inside.the_type)
    (search (sendable, crosses, out_sync) depth 40, (search sendable, (search (sendable, crosses, Items.the_sync, Diag.the_sync) depth 40, (Table.the_sync, tt))))))

-- what a closure takes with it crosses where each of two does, and where each of four does
pub two_send : (name : Sym) (A B : RattleType) → IsSend A → IsSend B → IsSend (TupleAt name (A ∷ B ∷ []))
two_send name A B a b = let T = type_at name (A ∷ B ∷ []) in recorded_send _ T.D T.to T.to_one (struct_send (shape T) (a, (b, tt)))

pub four_send : (name : Sym) (A B C D : RattleType) → IsSend A → IsSend B → IsSend C → IsSend D → IsSend (TupleAt name (A ∷ B ∷ C ∷ D ∷ []))
four_send name A B C D a b c d = let T = type_at name (A ∷ B ∷ C ∷ D ∷ []) in recorded_send _ T.D T.to T.to_one (struct_send (shape T) (a, (b, (c, (d, tt)))))
