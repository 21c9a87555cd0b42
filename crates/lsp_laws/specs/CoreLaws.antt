-- The laws of a core that takes work in any order.
use Rattle.std.specs.Prelude.{◌≡◌, ℕ, List, [], ◌∷◌, length}
use Rattle.std.specs.List.{flat_map}
use Rattle.collector_laws.specs.TextLaws.{text_after}
use Rattle.piece_collector.specs.declared.verdict.Verdict.{Verdict}
use Rattle.work_config.specs.Configuration.{Configuration}
use Rattle.work_files.specs.Files.{text_at}
use Rattle.lsp_core.specs.Core.{Event, state_after, board_events, IsLegal}
use Rattle.lsp_core.specs.Run.{Incoming, Message, Work, HasRun}
use Rattle.lsp_core.specs.Session.{session}

-- whatever has happened, the board has the texts of the workspace that the messages leave that have begun
abbrev pub BoardFollowsTheSession : Type 0
BoardFollowsTheSession = (opening : ℕ) (config : Configuration) (h : List Event) → IsLegal opening config h → (path : List ℕ) → text_after opening (board_events config h) path ≡ text_at path (state_after config h).files

-- messages, each followed by all work
abbrev pub with_work : List (List ℕ) → List Incoming
with_work bodies = flat_map (λ body. Message body ∷ Work ∷ []) bodies

-- A run of them gives the replies of the sequential session, processes them all, and gives no verdict.
abbrev pub WorkedMessagesAreProcessed : Type 0
WorkedMessagesAreProcessed = (config : Configuration) (bodies replies : List (List ℕ)) (verdicts : List Verdict) (count : ℕ) → HasRun config (with_work bodies) replies verdicts count
    → (replies ≡ (session config bodies).replies) × (verdicts ≡ []) × (count ≡ length bodies)
