-- What two graphs say of a file under its two numbers, import by import.
use Rattle.std.proofs.Common.{◌≡◌, ◌+◌, ◌<◌, ℕ, List, Bool, Option, None, false, length, get_or, map, take, sym, ap, ◌∙◌, arith}
use Rattle.std.proofs.Math.ListN.{get_or-map}
use Rattle.std.proofs.lemmas.List.{length-map}
use Rattle.import_graph.specs.declared.imports.FileImports.{FileImports}
use Rattle.import_graph.specs.Imports.{edges_at, target_at}
use Rattle.import_graph.specs.Moves.{moved_import, new_import}
use Rattle.import_graph.specs.Outlooks.{import_outlook, imports_outlook}
use Rattle.import_graph.proofs.Outlooks.{more_alike, said_at}

module _ (to : List (Option ℕ)) (a b : List FileImports) (from at : ℕ) where
  -- what is said of an import, by its number, also where there is none with that
  pub import_before : (i : ℕ) → get_or (map (moved_import to) (imports_outlook a from)) i (None, false) ≡ moved_import to (import_outlook a from (target_at a from i))
  import_before i = get_or-map (moved_import to) (imports_outlook a from) i (None, false) ∙ ap (moved_import to) (said_at a from i)

  pub import_after : (i : ℕ) → get_or (map new_import (imports_outlook b at)) i (None, false) ≡ new_import (import_outlook b at (target_at b at i))
  import_after i = get_or-map new_import (imports_outlook b at) i (None, false) ∙ ap new_import (said_at b at i)

  -- if all imports are the same under the new numbers, each one is
  pub moved_at : (i : ℕ) → map new_import (imports_outlook b at) ≡ map (moved_import to) (imports_outlook a from)
      → new_import (import_outlook b at (target_at b at i)) ≡ moved_import to (import_outlook a from (target_at a from i))
  moved_at i same = sym (import_after i) ∙ ap (λ (said : List (Option (Option ℕ) × Bool)). get_or said i (None, false)) same ∙ import_before i

  -- so are the next ones if one is that was behind them
  pub more_moved : (i : ℕ) → i < length (edges_at a from) → length (edges_at a from) ≡ length (edges_at b at)
      → map new_import (take i (imports_outlook b at)) ≡ map (moved_import to) (take i (imports_outlook a from))
      → new_import (import_outlook b at (target_at b at i)) ≡ moved_import to (import_outlook a from (target_at a from i))
      → map new_import (take (i + 1) (imports_outlook b at)) ≡ map (moved_import to) (take (i + 1) (imports_outlook a from))
  more_moved i there as_many before here =
      let long = length-map (edges_at a from) (λ l. import_outlook a from l.target) in
      let long' = length-map (edges_at b at) (λ l. import_outlook b at l.target) in
      more_alike new_import (moved_import to) (imports_outlook b at) (imports_outlook a from) i (None, false)
      (omega (arith, there, as_many, long')) (omega (arith, there, long)) before (import_after i ∙ here ∙ sym (import_before i))
