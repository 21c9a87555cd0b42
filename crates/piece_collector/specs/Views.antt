-- How contracts see a job, a piece, a slot and a board.
use Rattle.std.specs.Prelude.{◌≡◌, ℕ, Bool, false, cond, not, ◌&&◌, List, Option, Some, None, option_map, is_some, IfSome, IsTrue, bytes_eq, map, string_bytes, String}
use Rattle.std.specs.Bool.{nat_lt}
use Rattle.piece_collector.specs.declared.verdict.Verdict.{Verdict}
use Rattle.piece_collector.specs.declared.verdict.Verdict.TheVariants.{Taken, Stale, Foreign, Doubled}
use Rattle.std.specs.declared.alloc.Global.{Global}
use Rattle.std.specs.BTreeSet.{BTreeSet, contains_text}
use Rattle.std.specs.BTreeMap.{BTreeMap, get_by_text, IsOrdered}
use Rattle.std.specs.String.{string_cmp}
use Rattle.std.specs.Map.{lookup}
use Rattle.piece_collector.specs.History.{is_before}

-- a text at a path, with its stamp: what a job asks for, and what a piece was made of
pub record TextAt : Type 0 where
  pub path : List ℕ
  pub stamp : ℕ
  pub text : List ℕ

-- the current text of a path, whether a job for it was given, and the piece of it that is held
pub record SlotView : Type 0 where
  pub text : List ℕ
  pub stamp : ℕ
  pub is_out : Bool
  pub piece : Option TextAt

-- the last stamp, the slots of the known paths, and whether the pieces are lent
pub record BoardView : Type 0 where
  pub last : ℕ
  pub slots : List (List ℕ × SlotView)
  pub is_lent : Bool

-- the text of the slot of p
abbrev pub text_in : List ℕ → SlotView → TextAt
text_in p s = record { path = p; stamp = s.stamp; text = s.text }

-- the slot of p while its piece is lent: it counts as held
abbrev pub as_lent : List ℕ → SlotView → SlotView
as_lent p s = record s { piece = Some (text_in p s) }

-- a path and its slot, as callers see them
abbrev pub shown : Bool → String Global × SlotView → List ℕ × SlotView
shown is_lent e = (string_bytes e.0, cond is_lent (as_lent (string_bytes e.0) e.1) e.1)

-- a board with these slots, as callers see it
abbrev pub seen : ℕ → BTreeMap (String Global) SlotView → Bool → BoardView
seen last slots is_lent = record { last = last; slots = map (shown is_lent) slots.entries; is_lent = is_lent }

-- the slot of p, if p is known
abbrev pub slot_of : List ℕ → BoardView → Option SlotView
slot_of p b = lookup (λ q. bytes_eq p q) b.slots

-- the text of p, if p is known
abbrev pub known_text : List ℕ → BoardView → Option (List ℕ)
known_text p b = option_map (λ s. s.text) (slot_of p b)

-- the path is known and has no piece
abbrev pub is_unheld : Option SlotView → Bool
is_unheld None = false
is_unheld (Some s) = not (is_some s.piece)

-- the path is known, has no piece, and no job for it is out
abbrev pub is_wanting : Option SlotView → Bool
is_wanting None = false
is_wanting (Some s) = not (is_some s.piece) && not s.is_out

-- unless the pieces are lent, each path without one is in the index
abbrev pub IsIndexed : BTreeMap (String Global) SlotView → BTreeSet (String Global) → Bool → Type 0
IsIndexed slots unheld is_lent = is_lent ≡ false → (p : List ℕ) → IsTrue (is_unheld (get_by_text slots p)) → IsTrue (contains_text unheld p)

-- unless the pieces are lent, each is of the current text of its path
abbrev pub AreCurrent : BTreeMap (String Global) SlotView → Bool → Type 0
AreCurrent slots is_lent = is_lent ≡ false → (p : List ℕ) → IfSome (get_by_text slots p) (λ s. IfSome s.piece (λ piece. piece ≡ text_in p s))

-- no path before this one is wanted
abbrev pub IsNoneWantedBefore : List ℕ → BTreeMap (String Global) SlotView → Type 0
IsNoneWantedBefore p slots = (q : List ℕ) → IsTrue (is_before q p) → is_wanting (get_by_text slots q) ≡ false

-- unless the pieces are lent, no path before this one is wanted
abbrev pub IsPassed : BTreeMap (String Global) SlotView → String Global → Bool → Type 0
IsPassed slots from is_lent = is_lent ≡ false → IsNoneWantedBefore (string_bytes from) slots

-- what is true of the fields of every board
pub record IsKept (slots : BTreeMap (String Global) SlotView) (unheld : BTreeSet (String Global)) (from : String Global) (is_lent : Bool) : Type 0 where
  pub indexed : IsIndexed slots unheld is_lent
  pub passed : IsPassed slots from is_lent
  pub current : AreCurrent slots is_lent
  pub ordered : IsOrdered string_cmp slots

-- the slot of q after f was done to the slot of p
abbrev pub done_at : List ℕ → (SlotView → SlotView) → List ℕ → Option SlotView → Option SlotView
done_at p f q None = None
done_at p f q (Some s) = Some (cond (bytes_eq p q) (f s) s)

-- the verdict of a failure with this stamp, of a path with this slot
abbrev pub failure_at : ℕ → Option SlotView → Verdict
failure_at s None = Foreign
failure_at s (Some x) = cond (nat_lt s x.stamp) Stale (cond (nat_lt x.stamp s) Foreign (cond (is_some x.piece) Doubled Taken))

-- the verdict of a piece with this stamp and text, of a path with this slot
abbrev pub verdict_at : ℕ → List ℕ → Option SlotView → Verdict
verdict_at s t None = Foreign
verdict_at s t (Some x) = cond (nat_lt s x.stamp) Stale (cond (nat_lt x.stamp s) Foreign (cond (is_some x.piece) Doubled (cond (bytes_eq t x.text) Taken Foreign)))
