-- What a session and its core keep, as their definitions see it.
use Rattle.std.specs.Prelude.{◌≡◌, ℕ, List, [], ◌∷◌, Option, map, option_map, string_bytes}
use Rattle.serde_json.specs.Data.{null}
use Rattle.piece_collector.specs.Views.{BoardView}
use Rattle.lsp_rpc.specs.ClientCapabilities.{client_view}
use Rattle.lsp_rpc.specs.Initialize.{initialize_result}
use Rattle.lsp_rpc.specs.Message.{id_view, message_view}
use Rattle.lsp_rpc.specs.Reply.{result_reply, error_reply}
use Rattle.workspace_uri.specs.View.{roots_texts}
use Rattle.work_space.specs.View.{WorkspaceData}
use Rattle.lsp_answers.specs.Views.{question_view}
use Rattle.lsp_core.specs.Core.{CoreState}
use Rattle.lsp_core.specs.Session.{State, Pending, Now, Ask, Publish, Clear}
use Rattle.work_config.specs.declared.fault.CoreFault.{CoreFault}
use Rattle.lsp_core.specs.declared.pending.Pending as kept
use Rattle.lsp_core.specs.declared.pending.Pending.TheVariants as left
use Rattle.lsp_core.specs.declared.phase.Phase.{Phase}
use Rattle.lsp_core.specs.declared.session.Session.{Session}
use Rattle.lsp_core.specs.declared.session_core.Core.{Core}

-- the texts of its roots
abbrev pub roots_of : Session → List (List ℕ)
roots_of s = roots_texts s.roots

-- how far it has come
abbrev pub phase_of : Session → Phase
phase_of s = s.phase

-- the state of a session whose files, and how they are read, are those of a workspace
abbrev pub state_of : Session → WorkspaceData → State
state_of s w = record { roots = roots_of s; client = client_view s.client; phase = s.phase; files = w.files; reads_others = w.reads_others }

abbrev pub pending_view : kept.Pending → Pending
pending_view left.Nothing = Now []
pending_view (left.Refusal id code) = Now (error_reply (option_map id_view id) code ∷ [])
pending_view (left.Capabilities id encoding) = Now (result_reply (id_view id) (initialize_result encoding) ∷ [])
pending_view (left.Null id) = Now (result_reply (id_view id) null ∷ [])
pending_view (left.Ask id question) = Ask (id_view id) (question_view question)
pending_view left.Publish = Publish
pending_view (left.Clear uri) = Clear (string_bytes uri)

-- the last stamp was given
abbrev pub IsExhausted : BoardView → Type 0
IsExhausted board = board.last ≡ 18446744073709551615

abbrev pub core_state : Core → CoreState
core_state core = record {
  state = state_of core.session core.workspace;
  queue = map message_view core.queue.items;
  pending = option_map pending_view core.pending;
  board = core.workspace.board;
}

-- the fault that the core has answered, and answers from then on
abbrev pub last_fault : Core → Option CoreFault
last_fault core = core.fault
