-- Where imports lead back, files have one number.
use Rattle.std.proofs.Common.{◌≡◌, ℕ, ◌≤◌, List, map, get_or, arith}
use Rattle.import_graph.specs.declared.imports.FileImports.{FileImports}
use Rattle.import_graph.specs.Components.{Descends}
use Rattle.import_graph.specs.Imports.{targets}
use Rattle.import_graph.specs.Views.{Imports, Reaches}
use Rattle.import_graph.specs.Walks.{Walk, stay, go}
use Rattle.import_graph.proofs.ImportEdges.{imports_listed}

module _ (graph : List FileImports) (numbers : List ℕ) (descends : Descends (map targets graph) numbers) where
  step_descends : (a b : ℕ) → Imports graph a b → get_or numbers b 0 ≤ get_or numbers a 0
  step_descends a b step = descends a b ((imports_listed graph a b).1 step)

  walk_descends : {a b : ℕ} → Walk (λ a b. Imports graph a b) a b → get_or numbers b 0 ≤ get_or numbers a 0
  walk_descends stay = omega arith
  walk_descends (go {a = a} {b = b} first rest) = omega (arith, step_descends a b first, walk_descends rest)

  pub apart : (f g : ℕ) → Imports graph f g → (get_or numbers g 0 ≡ get_or numbers f 0 → ⊥) → Reaches graph g f → ⊥
  apart f g step differ back = differ (omega (arith, step_descends f g step, walk_descends back))
