-- What is wrong in a workspace.
use Rattle.std.specs.Prelude.{ℕ, List}
use Rattle.proto_decls.specs.declared.diagnostic.Diag.{Diag}
use Rattle.proto_decls.specs.declared.named_facts.NamedFacts.{NamedFacts}
use Rattle.work_index.specs.Workspace.{Source, Workspace, all_facts, analysis}

-- the paths of the files of a workspace and their texts, what each text says by itself, and what is wrong in each file
pub record DiagnosisData : Type 0 where
  pub paths : List (List ℕ)
  pub sources : List Source
  pub files : List NamedFacts
  pub diagnostics : List (List Diag)

abbrev pub diagnosis : Workspace → DiagnosisData
diagnosis w = let a = analysis w in record { paths = a.paths; sources = a.sources; files = all_facts w; diagnostics = a.diagnostics }
