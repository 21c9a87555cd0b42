-- Places put together file by file.
use Rattle.std.specs.Prelude.{ℕ, ◌==◌, List, [], ◌∷◌, if◌then◌else◌}
use Rattle.lsp_queries.specs.declared.place.Place.{Place}

-- places file by file, neighbours in one file together: what stands behind a place in its own file, and in the files after that
abbrev pub behind : ℕ → List (ℕ × List Place) → List Place
behind file [] = []
behind file (g ∷ gs) = if g.0 == file then g.1 else []

abbrev pub later : ℕ → List (ℕ × List Place) → List (ℕ × List Place)
later file [] = []
later file (g ∷ gs) = if g.0 == file then gs else g ∷ gs

abbrev pub by_file : List Place → List (ℕ × List Place)
by_file [] = []
by_file (p ∷ ps) = (p.file, p ∷ behind p.file (by_file ps)) ∷ later p.file (by_file ps)
