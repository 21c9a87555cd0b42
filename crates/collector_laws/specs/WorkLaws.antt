-- Laws of how the paths stand while jobs are asked for and pieces are brought. A list of events has the latest first.
use Rattle.std.specs.Prelude.{◌≡◌, ◌≢◌, ◌↔◌, ℕ, zero, suc, ◌≤◌, List, ◌∷◌, ◌++◌, Option, Some, None, option_map, option_and_then, bytes_eq}
use Rattle.std.specs.Map.{update}
use Rattle.std.specs.Option.{option_to_list}
use Rattle.piece_collector.specs.declared.verdict.Verdict.TheVariants.{Taken}
use Rattle.piece_collector.specs.Events.{Event, NextJob, Offer}
use Rattle.piece_collector.specs.History.{State, Out, Held, Standing, verdict_on, first_wanted, sets, history, stands_at}
use Rattle.piece_collector.specs.Board.{IsFirstWanted, IsComplete}
use Rattle.collector_laws.specs.TextLaws.{stamped_after}

-- a path that stands as x does, but in this state
abbrev pub in_state : State → Standing → Standing
in_state a x = record x { state = a }

-- A piece of a known path with its current stamp and text makes the path held, whether or not its job was out, and leaves each
-- other path as it stands.
abbrev pub PiecesMakeTheirPathsHeld : Type 0
PiecesMakeTheirPathsHeld = (o : ℕ) (es : List Event) (p : List ℕ) (x : Standing) → stands_at o es p ≡ Some x
    → (q : List ℕ) → stands_at o (Offer p x.stamp x.text ∷ es) q ≡ update bytes_eq (stands_at o es) p (Some (in_state Held x)) q

-- such a piece is taken where the path has none yet
abbrev pub RightPiecesAreTaken : Type 0
RightPiecesAreTaken = (x : Standing) → x.state ≢ Held → verdict_on x.stamp x.text (Some x) ≡ Taken

-- a job makes the first wanted path out, and leaves each other path as it stands
abbrev pub JobsMakeTheirPathsOut : Type 0
JobsMakeTheirPathsOut = (o : ℕ) (es : List Event) (p : List ℕ) → IsFirstWanted o es (Some p)
    → (q : List ℕ) → stands_at o (NextJob ∷ es) q ≡ update bytes_eq (stands_at o es) p (option_map (in_state Out) (stands_at o es p)) q

-- where no path is wanted, asking for a job changes nothing
abbrev pub NoJobChangesNothing : Type 0
NoJobChangesNothing = (o : ℕ) (es : List Event) → IsFirstWanted o es None → (q : List ℕ) → stands_at o (NextJob ∷ es) q ≡ stands_at o es q

-- the path is known and out
abbrev pub IsOut : Option Standing → Type 0
IsOut None = ⊥
IsOut (Some x) = x.state ≡ Out

abbrev pub NoneIsOut : ℕ → List Event → Type 0
NoneIsOut o es = (p : List ℕ) → ¬ IsOut (stands_at o es p)

-- no event but a job makes a path out
abbrev pub OnlyJobsMakePathsOut : Type 0
OnlyJobsMakePathsOut = (o : ℕ) (e : Event) (es : List Event) → e ≢ NextJob → (p : List ℕ) → IsOut (stands_at o (e ∷ es) p) → IsOut (stands_at o es p)

-- the board is complete exactly where no path is wanted and none is out
abbrev pub CompleteIsNoneWantedAndNoneOut : Type 0
CompleteIsNoneWantedAndNoneOut = (o : ℕ) (es : List Event) → IsComplete o es ↔ (IsFirstWanted o es None × NoneIsOut o es)

-- ---- rounds of work

-- the offer of the right piece for p, where the events make p known
abbrev pub right_piece : ℕ → List Event → List ℕ → Option Event
right_piece o es p = option_map (λ x. Offer p x.stamp x.text) (stands_at o es p)

-- the events and a round: a job is asked for, and the right piece for it is brought, where one was given
abbrev pub after_round : ℕ → List Event → List Event
after_round o es = option_to_list (option_and_then (right_piece o es) (first_wanted o (history o es))) ++ NextJob ∷ es

-- the events and n rounds
abbrev pub after_rounds : ℕ → ℕ → List Event → List Event
after_rounds zero o es = es
after_rounds (suc n) o es = after_rounds n o (after_round o es)

-- what a round is, said of the first wanted path
pub record RoundsAreForTheFirstWanted : Type 0 where
  pub given : (o : ℕ) (es : List Event) (p : List ℕ) (x : Standing) → IsFirstWanted o es (Some p) → stands_at o es p ≡ Some x → after_round o es ≡ Offer p x.stamp x.text ∷ NextJob ∷ es
  pub none : (o : ℕ) (es : List Event) → IsFirstWanted o es None → after_round o es ≡ NextJob ∷ es

-- it makes that path held, and leaves each other path as it stands
abbrev pub RoundsMakeTheirPathsHeld : Type 0
RoundsMakeTheirPathsHeld = (o : ℕ) (es : List Event) (p : List ℕ) → IsFirstWanted o es (Some p)
    → (q : List ℕ) → stands_at o (after_round o es) q ≡ update bytes_eq (stands_at o es) p (option_map (in_state Held) (stands_at o es p)) q

abbrev pub RoundsChangeNoText : Type 0
RoundsChangeNoText = (n o : ℕ) (es : List Event) (p : List ℕ) → stamped_after o (after_rounds n o es) p ≡ stamped_after o es p

abbrev pub RoundsLeaveNoneOut : Type 0
RoundsLeaveNoneOut = (n o : ℕ) (es : List Event) → NoneIsOut o es → NoneIsOut o (after_rounds n o es)

-- after as many rounds as texts were set, or more, no path is wanted
abbrev pub RoundsEnd : Type 0
RoundsEnd = (n o : ℕ) (es : List Event) → sets (history o es) ≤ n → IsFirstWanted o (after_rounds n o es) None

-- and the board is complete, if no path was out at first
abbrev pub RoundsComplete : Type 0
RoundsComplete = (n o : ℕ) (es : List Event) → sets (history o es) ≤ n → NoneIsOut o es → IsComplete o (after_rounds n o es)
