-- What a graph says of one of its files.
use Rattle.std.specs.Prelude.{ℕ, List, Bool, Option, map}
use Rattle.import_graph.specs.declared.imports.FileImports.{FileImports}
use Rattle.import_graph.specs.Imports.{edges_at}
use Rattle.import_graph.specs.Closures.{view_of, is_closed, closes_cycle}

-- what an import of f names, and whether it closes a cycle
abbrev pub import_outlook : List FileImports → ℕ → Option ℕ → Option ℕ × Bool
import_outlook graph f target = (target, closes_cycle graph f target)

-- the same of each import of f, in order
abbrev pub imports_outlook : List FileImports → ℕ → List (Option ℕ × Bool)
imports_outlook graph f = map (λ l. import_outlook graph f l.target) (edges_at graph f)

-- what f sees, whether its view is closed, and what its imports name and which of them close a cycle
abbrev pub outlook : List FileImports → ℕ → List ℕ × (Bool × List (Option ℕ × Bool))
outlook graph f = (view_of graph f, (is_closed graph f, imports_outlook graph f))
