-- What is known of a file by what it sees.
use Rattle.std.specs.Prelude.{ℕ, List}
use Rattle.proto_tree.specs.declared.node.FileTree.{FileTree}
use Rattle.proto_decls.specs.Order.{in_order}
use Rattle.proto_decls.specs.declared.named_facts.NamedFacts.{NamedFacts}
use Rattle.import_graph.specs.Imports.{graph_of}
use Rattle.import_graph.specs.Closures.{view_of}
use Rattle.proto_resolve.specs.declared.resolve.Links.{Links}
use Rattle.proto_resolve.specs.declared.site.NameSite.{NameSite}
use Rattle.proto_names.specs.Files.{facts_at}
use Rattle.proto_resolve.specs.Sites.{names_of_file}
use Rattle.proto_resolve.specs.Uses.{uses}
use Rattle.proto_resolve.specs.ViewDiagnostics.{view_diagnostics}

-- the names of a file among the files
abbrev pub sites_at : List NamedFacts → ℕ → List ℕ → FileTree → List NameSite
sites_at files f text tree = names_of_file text (facts_at files f) tree.nodes

-- The uses of a file's names, and what is wrong by what it sees: each diagnostic once, in order.
abbrev pub resolved : List NamedFacts → ℕ → List ℕ → FileTree → Links
resolved files f text tree = record {
  uses = uses files f (view_of (graph_of files) f) (sites_at files f text tree);
  diags = in_order (view_diagnostics files f (sites_at files f text tree));
}
