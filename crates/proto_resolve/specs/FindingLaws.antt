-- The law of what stands at a full name.
use Rattle.std.specs.Prelude.{◌≡◌, ◌↔◌, ℕ, List, Option}
use Rattle.proto_decls.specs.declared.named_facts.NamedFacts.{NamedFacts}
use Rattle.import_graph.specs.Imports.{graph_of}
use Rattle.import_graph.specs.Closures.{view_of}
use Rattle.proto_resolve.specs.declared.target.Target.{Target}
use Rattle.proto_resolve.specs.Names.{found}
use Rattle.proto_resolve.specs.Finding.{Finds}

-- the search and the words agree on what f finds at each full name
abbrev pub FindingLaw : List NamedFacts → Type 0
FindingLaw files = (f : ℕ) (name : List ℕ) (t : Option Target) → (found files f (view_of (graph_of files) f) name ≡ t) ↔ Finds files f name t
