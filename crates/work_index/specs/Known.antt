-- What an analysis is made of.
use Rattle.std.specs.Prelude.{◌≡◌, List, length, map}
use Rattle.proto_decls.specs.declared.diagnostic.Diag.{Diag}
use Rattle.proto_decls.specs.declared.named_facts.NamedFacts.{NamedFacts}
use Rattle.proto_names.specs.Files.{all_decls}
use Rattle.proto_resolve.specs.declared.resolve.Links.{Links}
use Rattle.work_index.specs.Workspace.{AnalysisData, IsKnown, Workspace}

module _ (table : List NamedFacts) (files : Workspace) (links : List Links) (diagnostics : List (List Diag)) where
  -- the analysis of these
  abbrev pub analysis_with : AnalysisData
  analysis_with = record {
    paths = map (λ f. f.0) files;
    sources = map (λ f. f.1) files;
    facts = map (λ file. file.facts) table;
    decls = all_decls table;
    links = links;
    diagnostics = diagnostics;
  }

  -- there is one of each for every file, with its path, and together they are the analysis of the workspace of the files
  abbrev pub HoldTogether : Type 0
  HoldTogether =
      (length files ≡ length table) × (length links ≡ length table) × (length diagnostics ≡ length table) × (map (λ f. f.0) files ≡ map (λ file. file.path) table) × IsKnown analysis_with
