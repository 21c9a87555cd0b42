-- What a core does in steps: the steps of messages, all work, and the messages of a stream.
use Rattle.std.specs.Prelude.{◌≡◌, ◌⊎◌, ℕ, ◌+◌, ◌<◌, ◌++◌, List, [], ◌∷◌, Bool, true, if◌then◌else◌, None, Some, IsSome, IfSome, is_some, length, map}
use Rattle.serde_json.specs.Written.{compact_text}
use Rattle.piece_collector.specs.Board.{IsFull}
use Rattle.lsp_rpc.specs.Message.{message_of}
use Rattle.work_config.specs.Configuration.{Configuration}
use Rattle.lsp_core.specs.Core.{Event, messages, processed, CoreState, IsAfter}
use Rattle.lsp_core.specs.Run.{IsWorked}
use Rattle.lsp_core.specs.Session.{Pending, replies_to, waits, needs_analysis, session}
use Rattle.lsp_core.specs.declared.step.Step.{Step}
use Rattle.lsp_core.specs.declared.step.Step.TheVariants.{Begin, Finish}

-- the board is complete, if what is left to be answered waits for it
abbrev pub IsReady : CoreState → Type 0
IsReady core = IfSome core.pending (λ p. waits p ≡ true → IsFull core.board)

-- the files are analysed, if what is left to be answered needs it
abbrev pub IsPrepared : CoreState → Bool → Type 0
IsPrepared core is_analysed = IfSome core.pending (λ p. needs_analysis p ≡ true → is_analysed ≡ true)

-- what is left to be answered needs an analysis
abbrev pub NeedsAnalysis : CoreState → Type 0
NeedsAnalysis core = (p : Pending) × (core.pending ≡ Some p) × (needs_analysis p ≡ true)

-- a step can be taken
abbrev pub CanStep : CoreState → Step → Type 0
CanStep core Begin = (core.pending ≡ None) × (0 < length core.queue)
CanStep core Finish = IsSome core.pending

-- how many messages aren't processed, and how many steps are left at most
abbrev pub unprocessed : CoreState → ℕ
unprocessed core = length core.queue + (if is_some core.pending then 1 else 0)

abbrev pub steps_left : CoreState → ℕ
steps_left core = length core.queue + unprocessed core

-- ---- work

-- the core is as after this history and all work that it had to give
pub record HasWorked (opening : ℕ) (config : Configuration) (core : CoreState) (h : List Event) : Type 0 where
  pub after : List Event
  pub worked : IsWorked opening config h after
  pub is_after : IsAfter opening config core after

-- ---- messages of a stream

-- the core has processed messages with these bodies, and none waits
pub record Knows (config : Configuration) (core : CoreState) (bodies : List (List ℕ)) : Type 0 where
  pub history : List Event
  pub is_after : IsAfter 0 config core history
  pub came : messages history ≡ bodies
  pub idle : processed history ≡ length (messages history)

-- the core has processed messages with these bodies, and not yet the last one, which has this body
pub record Awaits (config : Configuration) (core : CoreState) (bodies : List (List ℕ)) (body : List ℕ) : Type 0 where
  pub history : List Event
  pub is_after : IsAfter 0 config core history
  pub came : messages history ≡ bodies ++ body ∷ []
  pub count : processed history ≡ length bodies

-- the core is as after some history with the messages of this one, as many of them processed
pub record WorksOn (opening : ℕ) (config : Configuration) (core : CoreState) (h : List Event) : Type 0 where
  pub after : List Event
  pub is_after : IsAfter opening config core after
  pub came : messages after ≡ messages h
  pub count : processed after ≡ processed h

-- the bodies of the replies to one more message
abbrev pub replies_after : Configuration → List (List ℕ) → List ℕ → List (List ℕ)
replies_after config bodies body = map compact_text (replies_to (session config bodies).state (message_of body))

-- the core has processed the message with this body too, with these replies, or still awaits it; then nothing is said of the replies
abbrev pub Progresses : Configuration → CoreState → List (List ℕ) → List ℕ → List (List ℕ) → Type 0
Progresses config core bodies body replies = (Knows config core (bodies ++ body ∷ []) × (replies ≡ replies_after config bodies body)) ⊎ Awaits config core bodies body
