-- A core over a list of events, each followed by an advance.
use Rattle.std.specs.Prelude.{◌≡◌, ℕ, zero, suc, List, [], ◌∷◌, ◌++◌, Bool, true, false, Option, None, map, option_map, option_and_then, string_bytes}
use Rattle.std.specs.Option.{option_to_list}
use Rattle.piece_collector.specs.Board.{IsFirstWanted}
use Rattle.piece_collector.specs.History.{answer, first_wanted, history, stands_at}
use Rattle.piece_collector.specs.Events as work
use Rattle.piece_collector.specs.declared.verdict.Verdict.{Verdict}
use Rattle.work_index.specs.declared.done.Done.{Done}
use Rattle.work_index.specs.declared.done.Done.TheVariants as job
use Rattle.work_config.specs.Configuration.{Configuration}
use Rattle.lsp_core.specs.Core.{Event, Arrive, Advance, Give, Offer, Fail, processed, done, board_events, CoreState, IsAfter, IsLegal, IsSettled}
use Rattle.lsp_core.specs.Session.{session}
use Rattle.lsp_core.specs.declared.step.Step.{Step}

-- what a worker sends back, as an event of the core
abbrev pub event_of : Done → Event
event_of (job.Made piece) = Offer piece.path piece.stamp piece.text
event_of (job.Failed path stamp) = Fail (string_bytes path) stamp

-- what a caller lists: a message, the work on a text, a failure, or that all work is done that the core has to give
pub data Incoming : Type 0 where
  Message : List ℕ → Incoming
  Made : List ℕ → ℕ → List ℕ → Incoming
  Failed : List ℕ → ℕ → Incoming
  Work : Incoming

abbrev pub incoming_of_done : Done → Incoming
incoming_of_done (job.Made piece) = Made piece.path piece.stamp piece.text
incoming_of_done (job.Failed path stamp) = Failed (string_bytes path) stamp

-- ---- all work

-- the offer of the right work for a path
abbrev pub right_work : ℕ → Configuration → List Event → List ℕ → Option Event
right_work opening config h path = option_map (λ x. Offer path x.stamp x.text) (stands_at opening (board_events config h) path)

-- a job is asked for, and the work on it is brought, where one was given
abbrev pub with_round : ℕ → Configuration → List Event → List Event
with_round opening config h = option_to_list (option_and_then (right_work opening config h) (first_wanted opening (history opening (board_events config h)))) ++ Give ∷ h

abbrev pub with_rounds : ℕ → ℕ → Configuration → List Event → List Event
with_rounds zero opening config h = h
with_rounds (suc n) opening config h = with_rounds n opening config (with_round opening config h)

-- so many rounds were done that no job is left
pub record IsWorked (opening : ℕ) (config : Configuration) (h after : List Event) : Type 0 where
  pub rounds : ℕ
  pub is : after ≡ with_rounds rounds opening config h
  pub finished : IsFirstWanted opening (board_events config after) None

-- ---- one event and then the next

-- the history behind it
abbrev pub Extends : ℕ → Configuration → Incoming → List Event → List Event → Type 0
Extends opening config (Message body) h after = after ≡ Arrive body ∷ h
Extends opening config (Made path stamp text) h after = after ≡ Offer path stamp text ∷ h
Extends opening config (Failed path stamp) h after = after ≡ Fail path stamp ∷ h
Extends opening config Work h after = IsWorked opening config h after

-- the verdict that it gets
abbrev pub verdicts_of : ℕ → Configuration → List Event → Incoming → List Verdict
verdicts_of opening config h (Message body) = []
verdicts_of opening config h (Made path stamp text) = answer opening (board_events config h) (work.Offer path stamp text)
verdicts_of opening config h (Failed path stamp) = answer opening (board_events config h) (work.Fail path stamp)
verdicts_of opening config h Work = []

-- it came, and then as many steps were taken as could be
pub record Follows (opening : ℕ) (config : Configuration) (e : Incoming) (h next : List Event) : Type 0 where
  pub after : List Event
  pub comes : Extends opening config e h after
  pub steps : List Step
  pub is : next ≡ map Advance steps ++ after
  pub legal : IsLegal opening config next
  pub settled : IsSettled opening config next

-- the history behind all that is listed, with the verdicts in order
abbrev pub Runs : ℕ → Configuration → List Event → List Incoming → List Event → List Verdict → Type 0
Runs opening config h [] last verdicts = (last ≡ h) × (verdicts ≡ [])
Runs opening config h (e ∷ es) last verdicts =
    (next : List Event) × Follows opening config e h next × ((later : List Verdict) × (verdicts ≡ verdicts_of opening config h e ++ later) × Runs opening config next es last later)

-- a new core was run on all that is listed
pub record HasRun (config : Configuration) (es : List Incoming) (replies : List (List ℕ)) (verdicts : List Verdict) (count : ℕ) : Type 0 where
  pub history : List Event
  pub runs : Runs 0 config [] es history verdicts
  pub replied : replies ≡ (session config (done history)).replies
  pub counted : count ≡ processed history

-- how many messages are listed
abbrev pub is_message : Incoming → Bool
is_message (Message body) = true
is_message (Made path stamp text) = false
is_message (Failed path stamp) = false
is_message Work = false

-- the core is as after one more event
pub record HasCome (opening : ℕ) (config : Configuration) (core : CoreState) (e : Incoming) (h : List Event) : Type 0 where
  pub after : List Event
  pub comes : Extends opening config e h after
  pub is_after : IsAfter opening config core after

-- the core is as after one more event and an advance, and replies and verdicts were added to those that there were
pub record HasFollowed (opening : ℕ) (config : Configuration) (core : CoreState) (e : Incoming) (h : List Event) (replies more_replies : List (List ℕ)) (verdicts more_verdicts : List Verdict) : Type 0 where
  pub next : List Event
  pub follows : Follows opening config e h next
  pub is_after : IsAfter opening config core next
  pub replied : replies ≡ (session config (done h)).replies → more_replies ≡ (session config (done next)).replies
  pub judged : more_verdicts ≡ verdicts ++ verdicts_of opening config h e
