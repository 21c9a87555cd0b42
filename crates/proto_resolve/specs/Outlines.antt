-- What files say of their imports.
use Rattle.std.specs.Prelude.{ℕ, List, Bool, map}
use Rattle.proto_decls.specs.declared.fact.ImportFact.{ImportFact}
use Rattle.proto_decls.specs.declared.fact.FileFacts.{FileFacts}
use Rattle.import_graph.specs.Imports.{is_opaque}

-- what an import says to the graph of imports
abbrev pub imported : ImportFact → List ℕ × Bool
imported i = (i.path, i.is_public)

-- what a file's facts say to the graph of imports: whether nothing is known of the file, and its imports, in order
abbrev pub import_outline : FileFacts → Bool × List (List ℕ × Bool)
import_outline facts = (is_opaque facts.syntax, map imported facts.imports)
