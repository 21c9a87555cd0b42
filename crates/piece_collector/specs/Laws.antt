-- What is true of the definitions.
use Rattle.std.specs.Prelude.{◌≡◌, ℕ, Bool, false, ◌&&◌, ◌==◌, ◌↔◌, ⊤, List, [], ◌∷◌, ◌++◌, Option, Some, IsTrue, bytes_eq}
use Rattle.std.specs.List.{list_any}
use Rattle.piece_collector.specs.Events.{Event}
use Rattle.piece_collector.specs.History.{Entry, Set, Removed, Gave, Offered, Failed, changes, last, since, is_out, first_wanted, history}
use Rattle.piece_collector.specs.Board.{IsFirstWanted}

-- the list is empty, or begins with an entry that sets or removes the text of p
abbrev pub BeginsWithChange : List ℕ → List Entry → Type 0
BeginsWithChange p [] = ⊤
BeginsWithChange p (e ∷ h) = IsTrue (changes p e)

-- a history in two parts: entries that change nothing of p, and those up to the latest that does
pub record IsCutAtChange (p : List ℕ) (h later up : List Entry) : Type 0 where
  pub parts : h ≡ later ++ up
  pub unchanged : list_any (changes p) later ≡ false
  pub change : BeginsWithChange p up

abbrev pub LastChangeIsTheLatest : Type 0
LastChangeIsTheLatest = (p : List ℕ) (h : List Entry) → IsCutAtChange p h (since p h) (last p h)

-- the entry is a failure of p with this stamp
abbrev pub is_failure : List ℕ → ℕ → Entry → Bool
is_failure p s (Set q u) = false
is_failure p s (Removed q) = false
is_failure p s (Gave g) = false
is_failure p s (Offered q r u) = false
is_failure p s (Failed q r) = bytes_eq p q && (r == s)

-- a job of p was given, and no failure of p with this stamp came after
pub record IsGiven (p : List ℕ) (s : ℕ) (h : List Entry) : Type 0 where
  pub later : List Entry
  pub before : List Entry
  pub parts : h ≡ later ++ Gave (Some p) ∷ before
  pub unfailed : list_any (is_failure p s) later ≡ false

abbrev pub OutIsGivenAndNotFailed : Type 0
OutIsGivenAndNotFailed = (p : List ℕ) (s : ℕ) (h : List Entry) → IsTrue (is_out p s h) ↔ IsGiven p s h

abbrev pub JobsGoToTheFirstWanted : Type 0
JobsGoToTheFirstWanted = (o : ℕ) (es : List Event) (g : Option (List ℕ)) → IsFirstWanted o es g ↔ (first_wanted o (history o es) ≡ g)
