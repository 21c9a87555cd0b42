-- The files of a session stay in the order of their paths.
use Rattle.std.proofs.Common.{◌≡◌, ℕ, List, [], ◌∷◌, Bool, true, false, Option, Some, None, fold, refl, sym, subst}
use Rattle.serde_json.specs.Data.{Data}
use Rattle.lsp_rpc.specs.Message.{IdData, MessageData, parse_error, invalid_request, response, request, notification, message_of}
use Rattle.lsp_rpc.specs.Params.{OpenedDocument, ChangedDocument, opened_of, changed_of}
use Rattle.lsp_rpc.specs.declared.method.Method.{Method}
use Rattle.lsp_rpc.specs.declared.method.Method.TheVariants.{Initialize, Shutdown, Exit, DidOpen, DidChange, DidSave, DidClose, DocumentDiagnostic, WorkspaceDiagnostic, WorkspaceSymbol, Definition, References, Rename}
use Rattle.work_files.specs.Files.{OpenDocument, Files, AreInPathOrder, KeepsPathOrder, opened_files, changed_files, saved_files, closed_files}
use Rattle.work_files.proofs.PathOrder.{from_disk-order, opened_files-order, changed_files-order, saved_files-order, closed_files-order}
use Rattle.work_config.specs.Configuration.{Configuration, in_root_order}
use Rattle.lsp_core.specs.Session.{State, Run, at_path, path_of, path_in, opened, changed, running_request, first_request, requested, exits, running_notification, notified, received, turn_in, start, next, session}
use Rattle.lsp_core.specs.declared.phase.Phase.{Phase}
use Rattle.lsp_core.specs.declared.phase.Phase.TheVariants.{Uninitialized, Running, Shut, Exited}

abbrev IsOrdered : State → Type 0
IsOrdered s = AreInPathOrder s.files

-- ---- documents

at_path-order : (become : List ℕ → Files → Files) → ((path : List ℕ) → KeepsPathOrder (become path)) → (s : State) (path : Option (List ℕ)) → IsOrdered s → IsOrdered (at_path become s path)
at_path-order become keeps s None order = order
at_path-order become keeps s (Some path) order = keeps path s.files order

opened-order : (s : State) (o : Option OpenedDocument) → IsOrdered s → IsOrdered (opened s o)
opened-order s None order = order
opened-order s (Some o) order =
    let d : OpenDocument = record { version = o.version; text = o.text } in
    at_path-order (opened_files o.uri d) (opened_files-order o.uri d) s (path_of s o.uri) order

changed-order : (s : State) (c : Option ChangedDocument) → IsOrdered s → IsOrdered (changed s c)
changed-order s None order = order
changed-order s (Some c) order = at_path-order (changed_files c.document.version s.client.encoding c.changes) (changed_files-order c.document.version s.client.encoding c.changes) s (path_of s c.document.uri) order

-- ---- requests change no file

running_request-files : (s : State) (id : IdData) (method : Option Method) (params : Data) → (running_request s id method params).state.files ≡ s.files
running_request-files s id (Some Initialize) params = refl
running_request-files s id (Some Shutdown) params = refl
running_request-files s id (Some DocumentDiagnostic) params = refl
running_request-files s id (Some WorkspaceDiagnostic) params = refl
running_request-files s id (Some WorkspaceSymbol) params = refl
running_request-files s id (Some Definition) params = refl
running_request-files s id (Some References) params = refl
running_request-files s id (Some Rename) params = refl
running_request-files s id _ params = refl

first_request-files : (s : State) (id : IdData) (method : Option Method) (params : Data) → (first_request s id method params).state.files ≡ s.files
first_request-files s id (Some Initialize) params = refl
first_request-files s id _ params = refl

pub requested-files : (phase : Phase) (s : State) (id : IdData) (method : Option Method) (params : Data) → (requested phase s id method params).state.files ≡ s.files
requested-files Uninitialized s id method params = first_request-files s id method params
requested-files Running s id method params = running_request-files s id method params
requested-files Shut s id method params = refl
requested-files (Exited after_shutdown) s id method params = refl

-- ---- notifications

pub exits-files : (after_shutdown : Bool) (s : State) (method : Option Method) → (exits after_shutdown s method).files ≡ s.files
exits-files after_shutdown s (Some Exit) = refl
exits-files after_shutdown s _ = refl

running_notification-order : (s : State) (method : Option Method) (params : Data) → IsOrdered s → IsOrdered (running_notification s method params)
running_notification-order s (Some Exit) params order = order
running_notification-order s (Some DidOpen) params order = opened-order s (opened_of params) order
running_notification-order s (Some DidChange) params order = changed-order s (changed_of params) order
running_notification-order s (Some DidSave) params order = at_path-order saved_files saved_files-order s (path_in s params) order
running_notification-order s (Some DidClose) params order = at_path-order closed_files closed_files-order s (path_in s params) order
running_notification-order s _ params order = order

same-order : (s t : State) → t.files ≡ s.files → IsOrdered s → IsOrdered t
same-order s t same order = subst (λ (files : Files). AreInPathOrder files) (sym same) order

notified-order : (phase : Phase) (s : State) (method : Option Method) (params : Data) → IsOrdered s → IsOrdered (notified phase s method params)
notified-order Uninitialized s method params order = same-order s (exits false s method) (exits-files false s method) order
notified-order Running s method params order = running_notification-order s method params order
notified-order Shut s method params order = same-order s (exits true s method) (exits-files true s method) order
notified-order (Exited after_shutdown) s method params order = order

-- ---- the session

received-order : (s : State) (m : MessageData) → IsOrdered s → IsOrdered (received s m).state
received-order s parse_error order = order
received-order s (invalid_request id) order = order
received-order s response order = order
received-order s (request id method params) order = same-order s (requested s.phase s id method params).state (requested-files s.phase s id method params) order
received-order s (notification method params) order = notified-order s.phase s method params order

turn_in-order : (phase : Phase) (s : State) (m : MessageData) → IsOrdered s → IsOrdered (turn_in phase s m).state
turn_in-order (Exited after_shutdown) s m order = order
turn_in-order Uninitialized s m order = received-order s m order
turn_in-order Running s m order = received-order s m order
turn_in-order Shut s m order = received-order s m order

run-order : (r : Run) (bodies : List (List ℕ)) → IsOrdered r.state → IsOrdered (fold next r bodies).state
run-order r [] order = order
run-order r (body ∷ bodies) order = run-order (next r body) bodies (turn_in-order r.state.phase r.state (message_of body) order)

-- in each state of a session the paths ascend
pub session-order : (config : Configuration) (bodies : List (List ℕ)) → AreInPathOrder (session config bodies).state.files
unfolding session
session-order config bodies = run-order (record { state = start config; replies = [] }) bodies (from_disk-order (in_root_order config))
