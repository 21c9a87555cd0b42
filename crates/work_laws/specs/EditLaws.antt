-- The laws of the edits of a rename.
use Rattle.std.specs.Prelude.{◌≡◌, ℕ, ◌<◌, ◌≤◌, List, [], ◌∷◌, Some, Ok, All, IsUtf8, IsCharBoundary, map}
use Rattle.std.specs.List.{AllPairs}
use Rattle.doc_text.specs.declared.change.Change.{Change}
use Rattle.doc_text.specs.declared.encoding.Encoding.{Encoding}
use Rattle.doc_text.specs.declared.position.Range.{Range}
use Rattle.doc_text.specs.Edits.{ChangeData, change_view, edited, replaced}
use Rattle.doc_text.specs.Laws.{IsInsideLineEnd}
use Rattle.doc_text.specs.Positions.{position_of}
use Rattle.work_index.specs.Workspace.{Workspace, analysis}
use Rattle.lsp_renames.specs.Edited.{places_in, respelled}
use Rattle.lsp_queries.specs.PlaceLaws.{text_in}
use Rattle.lsp_renames.specs.Renaming.{renamed}
use Rattle.lsp_queries.specs.declared.place.Place.{Place}

-- ---- the changes

-- the positions of a place's start and end
abbrev pub range_of : Encoding → List ℕ → Place → Range
range_of e text p = record { start = position_of e text p.start; «end» = position_of e text p.«end» }

-- a name for what stands at a place
abbrev pub change_of : Encoding → List ℕ → List ℕ → Place → ChangeData
change_of e name text p = record { range = Some (range_of e text p); text = name }

-- a text after a change
abbrev pub changed : Encoding → ChangeData → List ℕ → List ℕ
changed e c text = replaced e c.range text c.text

-- a text after all of them, the last one made first
abbrev pub changed_from_the_last : Encoding → List ChangeData → List ℕ → List ℕ
changed_from_the_last e [] text = text
changed_from_the_last e (c ∷ more) text = changed e c (changed_from_the_last e more text)

-- ---- the laws

-- that is what a document's change makes of a text
abbrev pub ChangesEdit : Type 0
ChangesEdit = (e : Encoding) (c : Change) (text : List ℕ) → edited e c text ≡ changed e (change_view c) text

-- the place starts and ends between two characters of the text, and not inside a line end
pub record IsCutOut (text : List ℕ) (p : Place) : Type 0 where
  pub ordered : p.start ≤ p.«end»
  pub first : IsCharBoundary text p.start
  pub second : IsCharBoundary text p.«end»
  pub starts_outside : IsInsideLineEnd text p.start → ⊥
  pub ends_outside : IsInsideLineEnd text p.«end» → ⊥

-- a name for what stands at each of such places, of which no two touch, changes that and nothing else
abbrev pub EditsChangeThePlaces : Type 0
EditsChangeThePlaces =
    (e : Encoding) (text name : List ℕ) (places : List Place) → IsUtf8 text → IsUtf8 name → All (IsCutOut text) places → AllPairs (λ p q. p.«end» < q.start) places
    → changed_from_the_last e (map (change_of e name text) places) text ≡ respelled name text places

-- where the texts are UTF-8, so it is with the places of a rename in each file
abbrev pub RenamesChangeTheNames : Type 0
RenamesChangeTheNames =
    (e : Encoding) (w : Workspace) (asked offset : ℕ) (new_name : List ℕ) (places : List Place) (file : ℕ) → All (λ file. IsUtf8 file.1.text) w → renamed (analysis w) asked offset new_name ≡ Ok places
    → (let text = text_in w file in let here = places_in file places in changed_from_the_last e (map (change_of e new_name text) here) text ≡ respelled new_name text here)
