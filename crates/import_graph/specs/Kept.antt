-- What a graph keeps of its files' imports, beside the edges that contracts see.
use Rattle.std.specs.Prelude.{◌≡◌, ℕ, List, Bool, map, length, vec_len, All}
use Rattle.import_graph.specs.declared.components.Components.{Components}
use Rattle.import_graph.specs.declared.imports.FileImports.{FileImports}
use Rattle.import_graph.specs.declared.shared.SharedLists.{SharedLists}
use Rattle.import_graph.specs.Components.{Descends}
use Rattle.import_graph.specs.Condensed.{LeadAlike}
use Rattle.import_graph.specs.Imports.{is_complete_in, public_targets, targets}
use Rattle.import_graph.specs.Shared.{AreShared}
use Rattle.import_graph.specs.Ties.{IsTied}
use Rattle.import_graph.specs.Walks.{AllWithin}

-- each file that is imported is there, the files are listed for the search, the steps lead to what public imports lead to, it is
-- known which files are complete, the components are those of the imports, and files share what they see
pub record IsGraph (graph : List FileImports) (all : List (List ℕ)) (steps : List (List ℕ)) (flags : List Bool) (components : Components) (shared : SharedLists) : Type 0 where
  pub within : All (λ file. AllWithin (length graph) (targets file)) graph
  pub imports : all ≡ map targets graph
  pub counted : length steps ≡ length graph
  pub stay : All (AllWithin (length graph)) steps
  pub public : LeadAlike steps (map public_targets graph)
  pub complete : flags ≡ map (is_complete_in graph) graph
  pub numbered : vec_len components.numbers ≡ length graph
  pub descends : Descends (map targets graph) components.numbers.items
  pub flagged : vec_len components.tied ≡ length graph
  pub tied : IsTied (map targets graph) components.numbers.items components.tied.items
  pub lists : AreShared steps all shared
