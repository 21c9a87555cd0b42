-- What lending and taking back do to slots.
use Rattle.std.specs.Prelude.{◌≡◌, ℕ, List, [], ◌∷◌, ◌++◌, Option, Some, None, map, IsSome, IsTrue, bytes_eq, String, option_to_list}
use Rattle.std.specs.declared.alloc.Global.{Global}
use Rattle.std.specs.Ordering.{nat_cmp}
use Rattle.std.specs.Cmp.Lexicographic.{slice_cmp}
use Rattle.std.specs.List.{list_any}
use Rattle.std.specs.List.Sorted.{IsStrictlySortedBy}
use Rattle.piece_collector.specs.Views.{TextAt, SlotView}

-- a slot without its piece
abbrev pub emptied : SlotView → SlotView
emptied s = record s { piece = None }

-- the piece of a slot, if there is one
abbrev pub piece_in : Option SlotView → Option TextAt
piece_in None = None
piece_in (Some s) = s.piece

-- where the paths ascend and each has a piece, the new pieces are the old ones, and then those of the paths in order
abbrev pub TakesAll : (List ℕ → Option SlotView) → List (List ℕ) → List TextAt → List TextAt → Type 0
TakesAll slots paths old new = IsStrictlySortedBy (slice_cmp nat_cmp) paths → ((p : List ℕ) → IsTrue (list_any (bytes_eq p) paths) → IsSome (piece_in (slots p)))
    → map {B = Option TextAt} Some new ≡ map Some old ++ map (λ p. piece_in (slots p)) paths

-- the slots with these pieces in turn, from the first one on
abbrev pub given : List (String Global × SlotView) → List TextAt → List (String Global × SlotView)
given [] ts = []
given (e ∷ es) [] = e ∷ es
given (e ∷ es) (t ∷ ts) = (e.0, record e.1 { piece = Some t }) ∷ given es ts

-- a slot that was v is w, with the first of these pieces, if there is one; the rest are left
abbrev pub TakesNext : List TextAt → SlotView → SlotView → List TextAt → Type 0
TakesNext [] v w rest = (w ≡ v) × (rest ≡ [])
TakesNext (t ∷ ts) v w rest = (w ≡ record v { piece = Some t }) × (rest ≡ ts)

-- the entries with these values in turn, from the first one on
abbrev pub placed : List (String Global × SlotView) → List SlotView → List (String Global × SlotView)
placed [] ss = []
placed (e ∷ es) [] = e ∷ es
placed (e ∷ es) (s ∷ ss) = (e.0, s) ∷ placed es ss

-- a slot that was v is w, the first of these slots, if there is one; the rest are left
abbrev pub IsPlaced : List SlotView → SlotView → SlotView → List SlotView → Type 0
IsPlaced [] v w rest = (w ≡ v) × (rest ≡ [])
IsPlaced (s ∷ ss) v w rest = (w ≡ s) × (rest ≡ ss)

-- the pieces in these slots
abbrev pub pieces_in : List SlotView → List TextAt
pieces_in [] = []
pieces_in (s ∷ ss) = option_to_list s.piece ++ pieces_in ss
