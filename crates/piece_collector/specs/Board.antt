-- What a board holds after some events, the latest first.
use Rattle.std.specs.Prelude.{◌≡◌, ℕ, ◌+◌, ◌++◌, Bool, true, false, cond, List, Option, Some, None, option_map, IsSome, IsTrue, IfSome, map, bytes_eq}
use Rattle.std.specs.Ordering.{nat_cmp}
use Rattle.std.specs.Cmp.Lexicographic.{slice_cmp}
use Rattle.std.specs.List.Sorted.{IsStrictlySortedBy}
use Rattle.std.specs.Map.{lookup}
use Rattle.piece_collector.specs.Events.{Event}
use Rattle.piece_collector.specs.Views.{TextAt, SlotView, BoardView, slot_of, text_in}
use Rattle.piece_collector.specs.History.{State, Wanted, Out, Held, Standing, is_held, wants, is_before, sets, history, stands_at}

-- the state is that of a path whose job is out
abbrev pub is_out_in : State → Bool
is_out_in Wanted = false
is_out_in Out = true
is_out_in Held = false

-- the current text of p with its stamp, where p stands so
abbrev pub current_text : List ℕ → Standing → TextAt
current_text p x = record { path = p; stamp = x.stamp; text = x.text }

-- the slot of a path that stands so: where the path is held, it has a piece of its current text
abbrev pub slot_at : List ℕ → Standing → SlotView
slot_at p x = record { text = x.text; stamp = x.stamp; is_out = is_out_in x.state; piece = cond (is_held x.state) (Some (current_text p x)) None }

-- The board stands for these events, the latest first, which began at the opening stamp o: its last stamp is o and as
-- many as texts were set, and each path is known, and has the text, the stamp, the state and the piece, that the events
-- make of it.
pub record IsAfter (o : ℕ) (b : BoardView) (es : List Event) : Type 0 where
  pub last : b.last ≡ o + sets (history o es)
  pub each : (p : List ℕ) → slot_of p b ≡ option_map (slot_at p) (stands_at o es p)

-- this path is wanted, and no wanted path comes before it in path order; or it is none, and none is wanted
abbrev pub IsFirstWanted : ℕ → List Event → Option (List ℕ) → Type 0
IsFirstWanted o es None = (q : List ℕ) → wants (stands_at o es q) ≡ false
IsFirstWanted o es (Some p) = IsTrue (wants (stands_at o es p)) × ((q : List ℕ) → IsTrue (wants (stands_at o es q)) → is_before q p ≡ false)

-- the events make each known path held
abbrev pub IsComplete : ℕ → List Event → Type 0
IsComplete o es = (p : List ℕ) → IfSome (stands_at o es p) (λ x. x.state ≡ Held)

-- each known path of the board has a piece
abbrev pub IsFull : BoardView → Type 0
IsFull b = (p : List ℕ) → IfSome (slot_of p b) (λ s. IsSome s.piece)

-- the text at p among these, if one is
abbrev pub text_for : List ℕ → List TextAt → Option TextAt
text_for p ts = lookup (λ q. bytes_eq p q) (map (λ t. (t.path, t)) ts)

-- the paths ascend strictly
abbrev pub Ascends : List TextAt → Type 0
Ascends ts = IsStrictlySortedBy (slice_cmp nat_cmp) (map (λ t. t.path) ts)

-- these are the current texts of all paths that the events make known, with their stamps, in path order
pub record IsTextsOf (o : ℕ) (es : List Event) (ts : List TextAt) : Type 0 where
  pub ascends : Ascends ts
  pub each : (p : List ℕ) → text_for p ts ≡ option_map (current_text p) (stands_at o es p)

-- these are the texts of all known paths of the board, with their stamps, in path order
pub record IsTextsIn (b : BoardView) (ts : List TextAt) : Type 0 where
  pub ascends : Ascends ts
  pub each : (p : List ℕ) → text_for p ts ≡ option_map (text_in p) (slot_of p b)

-- this is so of all events that the board stands for, with the stamp from which it counted
abbrev pub WhateverCame : BoardView → (ℕ → List Event → Type 0) → Type 0
WhateverCame board says = (opening : ℕ) (events : List Event) → IsAfter opening board events → says opening events

-- whatever events the old board stands for, the new one stands for them and then these, the latest first
abbrev pub Records : BoardView → BoardView → List Event → Type 0
Records old new later = WhateverCame old (λ opening events. IsAfter opening new (later ++ events))
