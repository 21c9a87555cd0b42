-- The texts that a rename makes.
use Rattle.std.specs.Prelude.{ℕ, ◌==◌, List, [], ◌∷◌, ◌++◌, drop, filter, map, slice_range}
use Rattle.std.specs.List.{enumerate_from}
use Rattle.work_index.specs.Workspace.{Workspace}
use Rattle.work_meaning.specs.Edited.{with_text}
use Rattle.lsp_queries.specs.declared.place.Place.{Place}

-- The text from an offset on, with a name for what stands at each of the places, which are in order: up to a place the text
-- is kept, then comes the name, and behind the place it goes on so.
abbrev pub respelled_from : List ℕ → List ℕ → ℕ → List Place → List ℕ
respelled_from name text offset [] = drop offset text
respelled_from name text offset (p ∷ more) = slice_range text offset p.start ++ (name ++ respelled_from name text p.«end» more)

-- the whole text
abbrev pub respelled : List ℕ → List ℕ → List Place → List ℕ
respelled name text places = respelled_from name text 0 places

-- the places in a file
abbrev pub places_in : ℕ → List Place → List Place
places_in file places = filter (λ p. p.file == file) places

-- the workspace with a name for what stands at each of the places; whether a text is read if it isn't proto3 stays as it was
abbrev pub edited : List ℕ → List Place → Workspace → Workspace
edited name places w = map (λ e. (e.1.0, with_text e.1.1 (respelled name e.1.1.text (places_in e.0 places)))) (enumerate_from 0 w)
