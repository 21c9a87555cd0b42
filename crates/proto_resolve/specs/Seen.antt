-- What is known of a file by what it sees depends on no more than that.
use Rattle.std.specs.Prelude.{◌≡◌, ℕ, ◌<◌, List, All, length}
use Rattle.proto_tree.specs.declared.node.FileTree.{FileTree}
use Rattle.proto_decls.specs.declared.named_facts.NamedFacts.{NamedFacts}
use Rattle.import_graph.specs.Imports.{graph_of}
use Rattle.import_graph.specs.Closures.{view_of}
use Rattle.import_graph.specs.Outlooks.{outlook}
use Rattle.proto_names.specs.Files.{facts_at}
use Rattle.proto_resolve.specs.Resolved.{resolved}
use Rattle.proto_names.specs.Outlines.{exports}

-- there are as many files, their imports say the same of f, f says the same by itself, and each file that f sees says the same
-- to it
pub record SeesTheSame (old new : List NamedFacts) (f : ℕ) : Type 0 where
  pub files : length old ≡ length new
  pub imports : outlook (graph_of old) f ≡ outlook (graph_of new) f
  pub own : facts_at old f ≡ facts_at new f
  pub seen : All (λ g. exports (facts_at old g) ≡ exports (facts_at new g)) (view_of (graph_of new) f)

-- where a file sees the same, the same is known of it
abbrev pub SeenLaw : Type 0
SeenLaw = (old new : List NamedFacts) (f : ℕ) → f < length new → SeesTheSame old new f → (text : List ℕ) (tree : FileTree)
    → resolved old f text tree ≡ resolved new f text tree
