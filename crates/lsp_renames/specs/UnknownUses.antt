-- Files whose declarations may have uses that aren't known.
use Rattle.std.specs.Prelude.{ℕ, ◌&&◌, nat_lt, List, Bool, true, false, length}
use Rattle.std.specs.List.{enumerate_from, list_any}
use Rattle.std.specs.Option.{option_map_or}
use Rattle.proto_decls.specs.declared.fact.SyntaxFact.{SyntaxFact}
use Rattle.proto_decls.specs.declared.fact.SyntaxFact.TheVariants.{Other}
use Rattle.import_graph.specs.Closures.{seers_of}
use Rattle.import_graph.specs.Imports.{graph_of}
use Rattle.work_index.specs.Workspace.{AnalysisData, all_facts, workspace_in}
use Rattle.lsp_queries.specs.Files.{facts_in}

-- a text isn't proto3, and is read for what it declares, but its names aren't resolved
abbrev pub is_other_language : SyntaxFact → Bool
is_other_language Other = true
is_other_language _ = false

module _ (a : AnalysisData) where
  -- a file has such a text
  abbrev pub is_of_other : ℕ → Bool
  is_of_other file = option_map_or (λ facts. is_other_language facts.syntax) (facts_in a file) false

  abbrev pub has_others : Bool
  has_others = list_any (λ e. is_of_other e.0) (enumerate_from 0 a.paths)

  -- the files that see a file, itself among them
  abbrev pub seers_in : ℕ → List ℕ
  seers_in file = seers_of (graph_of (all_facts (workspace_in a))) file

  -- what a file declares may have uses that aren't known: it has such a text itself, or a file has one that may use it
  abbrev pub has_unknown_uses : ℕ → Bool
  has_unknown_uses file = nat_lt file (length a.paths) && list_any is_of_other (seers_in file)
