-- What is known of the client stays.
use Rattle.std.proofs.Common.{◌≡◌, ℕ, List, [], ◌∷◌, Bool, true, false, Option, Some, None, fold, refl, sym, ap, ◌∙◌}
use Rattle.serde_json.specs.Data.{Data}
use Rattle.lsp_rpc.specs.Message.{IdData, MessageData, parse_error, invalid_request, response, request, notification, message_of}
use Rattle.lsp_rpc.specs.Params.{OpenedDocument, ChangedDocument, opened_of, changed_of}
use Rattle.lsp_rpc.specs.declared.method.Method.{Method}
use Rattle.lsp_rpc.specs.declared.method.Method.TheVariants.{Initialize, Shutdown, Exit, DidOpen, DidChange, DidSave, DidClose, DocumentDiagnostic, WorkspaceDiagnostic, WorkspaceSymbol, Definition, References, Rename}
use Rattle.work_files.specs.Files.{OpenDocument, Files, opened_files, changed_files, saved_files, closed_files}
use Rattle.lsp_core.specs.Session.{State, Run, at_path, path_of, path_in, opened, changed, running_request, requested, exits, running_notification, notified, received, turn_in, next, session, ClientStays}
use Rattle.lsp_core.specs.declared.phase.Phase.{Phase}
use Rattle.lsp_core.specs.declared.phase.Phase.TheVariants.{Uninitialized, Running, Shut, Exited}
use Rattle.lsp_core.proofs.CoreLemmas.{session-append}

-- the client stays, and an `initialize` that was answered stays answered
record Stays (old new : State) : Type 0 where
  client : new.client ≡ old.client
  answered : ¬ (new.phase ≡ Uninitialized)

-- where neither it nor the phase changes
same : (old new : State) → ¬ (old.phase ≡ Uninitialized) → new.client ≡ old.client → new.phase ≡ old.phase → Stays old new
same old new answered client phase = record { client = client; answered = λ e. answered (sym phase ∙ e) }

at_path-stays : (become : List ℕ → Files → Files) (s : State) (path : Option (List ℕ)) → ¬ (s.phase ≡ Uninitialized) → Stays s (at_path become s path)
at_path-stays become s None answered = same s s answered refl refl
at_path-stays become s (Some path) answered = same s (at_path become s (Some path)) answered refl refl

opened-stays : (s : State) (o : Option OpenedDocument) → ¬ (s.phase ≡ Uninitialized) → Stays s (opened s o)
opened-stays s None answered = same s s answered refl refl
opened-stays s (Some o) answered =
    let d : OpenDocument = record { version = o.version; text = o.text } in
    at_path-stays (opened_files o.uri d) s (path_of s o.uri) answered

changed-stays : (s : State) (c : Option ChangedDocument) → ¬ (s.phase ≡ Uninitialized) → Stays s (changed s c)
changed-stays s None answered = same s s answered refl refl
changed-stays s (Some c) answered = at_path-stays (changed_files c.document.version s.client.encoding c.changes) s (path_of s c.document.uri) answered

running_request-stays : (s : State) (id : IdData) (method : Option Method) (params : Data) → ¬ (s.phase ≡ Uninitialized) → Stays s (running_request s id method params).state
running_request-stays s id (Some Initialize) params answered = same s s answered refl refl
running_request-stays s id (Some Shutdown) params answered = record { client = refl; answered = λ e. cc }
running_request-stays s id (Some DocumentDiagnostic) params answered = same s s answered refl refl
running_request-stays s id (Some WorkspaceDiagnostic) params answered = same s s answered refl refl
running_request-stays s id (Some WorkspaceSymbol) params answered = same s s answered refl refl
running_request-stays s id (Some Definition) params answered = same s s answered refl refl
running_request-stays s id (Some References) params answered = same s s answered refl refl
running_request-stays s id (Some Rename) params answered = same s s answered refl refl
running_request-stays s id _ params answered = same s s answered refl refl

exits-stays : (after_shutdown : Bool) (s : State) (method : Option Method) → ¬ (s.phase ≡ Uninitialized) → Stays s (exits after_shutdown s method)
exits-stays after_shutdown s (Some Exit) answered = record { client = refl; answered = λ e. cc }
exits-stays after_shutdown s _ answered = same s s answered refl refl

running_notification-stays : (s : State) (method : Option Method) (params : Data) → ¬ (s.phase ≡ Uninitialized) → Stays s (running_notification s method params)
running_notification-stays s (Some Exit) params answered = record { client = refl; answered = λ e. cc }
running_notification-stays s (Some DidOpen) params answered = opened-stays s (opened_of params) answered
running_notification-stays s (Some DidChange) params answered = changed-stays s (changed_of params) answered
running_notification-stays s (Some DidSave) params answered = at_path-stays saved_files s (path_in s params) answered
running_notification-stays s (Some DidClose) params answered = at_path-stays closed_files s (path_in s params) answered
running_notification-stays s _ params answered = same s s answered refl refl

requested-stays : (phase : Phase) (s : State) (id : IdData) (method : Option Method) (params : Data) → s.phase ≡ phase → ¬ (s.phase ≡ Uninitialized) → Stays s (requested phase s id method params).state
requested-stays Uninitialized s id method params is answered = absurd (answered is)
requested-stays Running s id method params is answered = running_request-stays s id method params answered
requested-stays Shut s id method params is answered = same s s answered refl refl
requested-stays (Exited after_shutdown) s id method params is answered = same s s answered refl refl

notified-stays : (phase : Phase) (s : State) (method : Option Method) (params : Data) → ¬ (s.phase ≡ Uninitialized) → Stays s (notified phase s method params)
notified-stays Uninitialized s method params answered = exits-stays false s method answered
notified-stays Running s method params answered = running_notification-stays s method params answered
notified-stays Shut s method params answered = exits-stays true s method answered
notified-stays (Exited after_shutdown) s method params answered = same s s answered refl refl

received-stays : (s : State) (m : MessageData) → ¬ (s.phase ≡ Uninitialized) → Stays s (received s m).state
received-stays s parse_error answered = same s s answered refl refl
received-stays s (invalid_request id) answered = same s s answered refl refl
received-stays s response answered = same s s answered refl refl
received-stays s (request id method params) answered = requested-stays s.phase s id method params refl answered
received-stays s (notification method params) answered = notified-stays s.phase s method params answered

turn_in-stays : (phase : Phase) (s : State) (m : MessageData) → ¬ (s.phase ≡ Uninitialized) → Stays s (turn_in phase s m).state
turn_in-stays (Exited after_shutdown) s m answered = same s s answered refl refl
turn_in-stays Uninitialized s m answered = received-stays s m answered
turn_in-stays Running s m answered = received-stays s m answered
turn_in-stays Shut s m answered = received-stays s m answered

run-stays : (r : Run) (bodies : List (List ℕ)) → ¬ (r.state.phase ≡ Uninitialized) → (fold next r bodies).state.client ≡ r.state.client
run-stays r [] answered = refl
run-stays r (body ∷ bodies) answered =
    let first = turn_in-stays r.state.phase r.state (message_of body) answered in
    run-stays (next r body) bodies first.answered ∙ first.client

pub client-stays : ClientStays
client-stays config bodies later answered = ap (λ r. r.state.client) (session-append config bodies later) ∙ run-stays (session config bodies) later answered
