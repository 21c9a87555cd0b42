-- The tree of a source whose names count.
use Rattle.std.proofs.Common.{◌≡◌, Bool, true, false, cond, []}
use Rattle.std.specs.Prelude.{◌&&◌}
use Rattle.proto_tree.specs.declared.node.FileTree.{FileTree}
use Rattle.proto_tree.specs.Identifiers.{AllIdentifiers, IsIdentifierAt, NamesAreIdentifiers}
use Rattle.proto_tree.specs.Others.{other_tree}
use Rattle.proto_tree.specs.Read.{empty_tree, read, value_tree}
use Rattle.proto_decls.specs.declared.fact.FileFacts.{FileFacts}
use Rattle.proto_decls.specs.Facts.{facts_of, is_other, other_facts}
use Rattle.proto_laws.proofs.IdentifierLaws.{OthersAreIdentifiers, of_value}
use Rattle.work_index.specs.Workspace.{Source, source_facts}

-- that of another language where the text is read as one, else that of proto3
abbrev pub named_tree : Source → FileTree
named_tree s = cond {A = FileTree} (s.reads_others && is_other s.text) (other_tree s.text) (value_tree s.text)

-- what holds of both trees, with the facts of each, holds of it
pub by_tree : (s : Source) (Q : FileTree → FileFacts → Type 0) → Q (other_tree s.text) (other_facts s.text) → Q (value_tree s.text) (facts_of s.text) → Q (named_tree s) (source_facts s)
by_tree s Q other own = by (s.reads_others && is_other s.text)
  where
    by : (b : Bool) → Q (cond {A = FileTree} b (other_tree s.text) (value_tree s.text)) (cond {A = FileFacts} b (other_facts s.text) (facts_of s.text))
    by true = other
    by false = own

-- its names are identifiers of the text
pub named-identifiers : read [] ≡ empty_tree → NamesAreIdentifiers → OthersAreIdentifiers → (s : Source) → AllIdentifiers (IsIdentifierAt s.text) (named_tree s).nodes
named-identifiers empty identifiers others s =
    by_tree s (λ tree facts. AllIdentifiers (IsIdentifierAt s.text) tree.nodes) (others s.text) (of_value (IsIdentifierAt s.text) s.text empty (identifiers s.text))
