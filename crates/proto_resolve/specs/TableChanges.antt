-- The files of a table after a change.
use Rattle.std.specs.Prelude.{◌≡◌, ◌<◌, ◌≤◌, List, length}
use Rattle.std.specs.List.{insert, remove}
use Rattle.proto_decls.specs.declared.named_facts.NamedFacts.{NamedFacts}
use Rattle.import_graph.specs.Arrivals.{NobodyImports}
use Rattle.import_graph.specs.Paths.{IsInPathOrder}
use Rattle.proto_names.specs.Files.{facts_at}
use Rattle.proto_names.specs.Outlines.{with_facts}
use Rattle.proto_resolve.specs.declared.table_change.TableChange.{TableChange}
use Rattle.proto_resolve.specs.declared.table_change.TableChange.TheVariants.{Facts, Added, Removed}
use Rattle.proto_resolve.specs.Outlines.{import_outline}

-- the files after a change
abbrev pub changed : List NamedFacts → TableChange → List NamedFacts
changed files (Facts f facts) = with_facts files f facts
changed files (Added at file) = insert files at file
changed files (Removed at) = remove files at

-- a file that changes or leaves is there, and with one that comes the files are in the order of their paths
abbrev pub IsPossible : List NamedFacts → TableChange → Type 0
IsPossible files (Facts f facts) = f < length files
IsPossible files (Added at file) = (at ≤ length files) × IsInPathOrder (insert files at file)
IsPossible files (Removed at) = at < length files

-- it is certain that imports lead where they led: other facts say the same of them, or none names the path of the file that comes; never where a file leaves
abbrev pub KeepsImports : List NamedFacts → TableChange → Type 0
KeepsImports files (Facts f facts) = import_outline facts ≡ import_outline (facts_at files f)
KeepsImports files (Added at file) = NobodyImports files file.path
KeepsImports files (Removed at) = ⊥
