-- What a list of events makes of each path. A history is a list of entries, the latest first, as the events are.
use Rattle.std.specs.Prelude.{ℕ, ◌+◌, Bool, true, false, cond, not, ◌&&◌, ◌||◌, ◌==◌, nat_lt, List, [], ◌∷◌, ◌++◌, Option, Some, None, option_map, bytes_eq, filter}
use Rattle.std.specs.List.{list_any}
use Rattle.std.specs.Ordering.{nat_cmp, is_lt}
use Rattle.std.specs.Cmp.Lexicographic.{slice_cmp}
use Rattle.piece_collector.specs.declared.verdict.Verdict.{Verdict}
use Rattle.piece_collector.specs.declared.verdict.Verdict.TheVariants.{Taken, Stale, Foreign, Doubled}
use Rattle.piece_collector.specs.Events.{Event, SetText, Remove, NextJob, Offer, Fail}

-- An event that happened. Where a job was asked for, the entry names the path that it was given for, if any.
pub data Entry : Type 0 where
  Set : List ℕ → List ℕ → Entry
  Removed : List ℕ → Entry
  Gave : Option (List ℕ) → Entry
  Offered : List ℕ → ℕ → List ℕ → Entry
  Failed : List ℕ → ℕ → Entry

-- what is to be done about a known path: a job for it is to be given, is out, or is done, and its piece is held
pub data State : Type 0 where
  Wanted : State
  Out : State
  Held : State

-- the entry sets or removes the text of p
abbrev pub changes : List ℕ → Entry → Bool
changes p (Set q t) = bytes_eq p q
changes p (Removed q) = bytes_eq p q
changes p (Gave g) = false
changes p (Offered q s t) = false
changes p (Failed q s) = false

-- the latest entry that sets or removes the text of p, and all before it
abbrev pub last : List ℕ → List Entry → List Entry
last p [] = []
last p (e ∷ h) = cond (changes p e) (e ∷ h) (last p h)

-- the entries after that one
abbrev pub since : List ℕ → List Entry → List Entry
since p [] = []
since p (e ∷ h) = cond (changes p e) [] (e ∷ since p h)

-- how many texts were set
abbrev pub sets : List Entry → ℕ
sets [] = 0
sets (Set q t ∷ h) = sets h + 1
sets (Removed q ∷ h) = sets h
sets (Gave g ∷ h) = sets h
sets (Offered q s t ∷ h) = sets h
sets (Failed q s ∷ h) = sets h

-- the text that the latest entry sets, if it sets one
abbrev pub text_set : List Entry → Option (List ℕ)
text_set [] = None
text_set (Set q t ∷ h) = Some t
text_set (Removed q ∷ h) = None
text_set (Gave g ∷ h) = None
text_set (Offered q s t ∷ h) = None
text_set (Failed q s ∷ h) = None

-- the text of p, if its latest change set one: p is known there
abbrev pub text_of : List ℕ → List Entry → Option (List ℕ)
text_of p h = text_set (last p h)

-- its stamp: the opening stamp o and one for each text set up to then
abbrev pub stamp_of : ℕ → List ℕ → List Entry → ℕ
stamp_of o p h = o + sets (last p h)

-- the entry brings a piece of p with this stamp and text
abbrev pub is_piece : List ℕ → ℕ → List ℕ → Entry → Bool
is_piece p s t (Set q u) = false
is_piece p s t (Removed q) = false
is_piece p s t (Gave g) = false
is_piece p s t (Offered q r u) = bytes_eq p q && (r == s) && bytes_eq u t
is_piece p s t (Failed q r) = false

-- of the jobs of p and the failures of p with this stamp, the latest is a job
abbrev pub is_out : List ℕ → ℕ → List Entry → Bool
is_out p s [] = false
is_out p s (Set q u ∷ h) = is_out p s h
is_out p s (Removed q ∷ h) = is_out p s h
is_out p s (Gave None ∷ h) = is_out p s h
is_out p s (Gave (Some q) ∷ h) = bytes_eq p q || is_out p s h
is_out p s (Offered q r u ∷ h) = is_out p s h
is_out p s (Failed q r ∷ h) = not (bytes_eq p q && (r == s)) && is_out p s h

-- how a known path stands
pub record Standing : Type 0 where
  pub text : List ℕ
  pub stamp : ℕ
  pub state : State

-- The state of p with this stamp and text, from the entries since its last change: held where one brings a piece of
-- it, else out where a job was given and no failure of it came after, else wanted.
abbrev pub state_of : List ℕ → ℕ → List ℕ → List Entry → State
state_of p s t es = cond (list_any (is_piece p s t) es) Held (cond (is_out p s es) Out Wanted)

-- how p stands after this history, if it is known
abbrev pub standing : ℕ → List ℕ → List Entry → Option Standing
standing o p h = option_map (λ t. record { text = t; stamp = stamp_of o p h; state = state_of p (stamp_of o p h) t (since p h) }) (text_of p h)

-- the state is that of a path whose piece is held
abbrev pub is_held : State → Bool
is_held Wanted = false
is_held Out = false
is_held Held = true

-- the state is that of a path that a job is to be given for
abbrev pub is_wanted : State → Bool
is_wanted Wanted = true
is_wanted Out = false
is_wanted Held = false

-- The first verdict that fits a piece with this stamp and text, of a path that stands so: foreign where the path is
-- unknown, stale where the stamp is below its own, foreign where it is above, doubled where a piece is held, foreign
-- where the text is another, else taken.
abbrev pub verdict_on : ℕ → List ℕ → Option Standing → Verdict
verdict_on s t None = Foreign
verdict_on s t (Some x) = cond (nat_lt s x.stamp) Stale (cond (nat_lt x.stamp s) Foreign (cond (is_held x.state) Doubled (cond (bytes_eq t x.text) Taken Foreign)))

-- the first that fits a failure with this stamp: the same, without the text
abbrev pub failure_on : ℕ → Option Standing → Verdict
failure_on s None = Foreign
failure_on s (Some x) = cond (nat_lt s x.stamp) Stale (cond (nat_lt x.stamp s) Foreign (cond (is_held x.state) Doubled Taken))

-- path order, that of the paths' bytes
abbrev pub is_before : List ℕ → List ℕ → Bool
is_before p q = is_lt (slice_cmp nat_cmp p q)

-- the paths whose texts were set
abbrev pub paths : List Entry → List (List ℕ)
paths [] = []
paths (Set p t ∷ h) = p ∷ paths h
paths (Removed p ∷ h) = paths h
paths (Gave g ∷ h) = paths h
paths (Offered p s t ∷ h) = paths h
paths (Failed p s ∷ h) = paths h

-- the first of p and what is given, in path order
abbrev pub earlier : List ℕ → Option (List ℕ) → List ℕ
earlier p None = p
earlier p (Some q) = cond (is_before p q) p q

-- the first of some paths, in path order
abbrev pub first : List (List ℕ) → Option (List ℕ)
first [] = None
first (p ∷ ps) = Some (earlier p (first ps))

-- the path is known and wanted
abbrev pub wants : Option Standing → Bool
wants None = false
wants (Some x) = is_wanted x.state

-- the first wanted path, in path order, if one is wanted
abbrev pub first_wanted : ℕ → List Entry → Option (List ℕ)
first_wanted o h = first (filter (λ p. wants (standing o p h)) (paths h))

-- the history of some events, each the latest first: where a job is asked for, it is given for the first wanted path
abbrev pub history : ℕ → List Event → List Entry
history o [] = []
history o (SetText p t ∷ es) = Set p t ∷ history o es
history o (Remove p ∷ es) = Removed p ∷ history o es
history o (NextJob ∷ es) = Gave (first_wanted o (history o es)) ∷ history o es
history o (Offer p s t ∷ es) = Offered p s t ∷ history o es
history o (Fail p s ∷ es) = Failed p s ∷ history o es

-- how p stands after these events, from the opening stamp o, if it is known
abbrev pub stands_at : ℕ → List Event → List ℕ → Option Standing
stands_at o es p = standing o p (history o es)

-- the verdict that a further event gets after these: a piece and a failure get one
abbrev pub answer : ℕ → List Event → Event → List Verdict
answer o es (SetText p t) = []
answer o es (Remove p) = []
answer o es NextJob = []
answer o es (Offer p s t) = verdict_on s t (stands_at o es p) ∷ []
answer o es (Fail p s) = failure_on s (stands_at o es p) ∷ []

-- the verdicts of all pieces and failures among the events, that of the earliest first
abbrev pub verdicts : ℕ → List Event → List Verdict
verdicts o [] = []
verdicts o (e ∷ es) = verdicts o es ++ answer o es e
