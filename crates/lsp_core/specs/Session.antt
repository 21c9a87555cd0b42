-- The sequential session (Language Server Protocol 3.17): what each message changes, and what is replied to it.
use Rattle.std.specs.Prelude.{◌≡◌, ℕ, List, [], ◌∷◌, ◌++◌, Bool, true, false, if◌then◌else◌, Option, Some, None, option_and_then, option_map, map, fold, is_some}
use Rattle.doc_text.specs.Positions.{offset_of}
use Rattle.serde_json.specs.Data.{Data, null}
use Rattle.serde_json.specs.Written.{compact_text}
use Rattle.lsp_rpc.specs.ClientCapabilities.{ClientData, client_of, default_client}
use Rattle.lsp_rpc.specs.Initialize.{initialize_result}
use Rattle.lsp_rpc.specs.Message.{IdData, MessageData, parse_error, invalid_request, response, request, notification, message_of}
use Rattle.lsp_rpc.specs.Notification.{publication_value}
use Rattle.lsp_rpc.specs.Params.{OpenedDocument, ChangedDocument, opened_of, changed_of, uri_of}
use Rattle.lsp_rpc.specs.RequestParams.{PlaceData, query_of, place_of, reference_of, rename_of}
use Rattle.lsp_rpc.specs.Reply.{result_reply, error_reply}
use Rattle.lsp_rpc.specs.declared.error_code.ErrorCode.{ErrorCode}
use Rattle.lsp_rpc.specs.declared.error_code.ErrorCode.TheVariants.{ParseError, InvalidRequest, MethodNotFound, InvalidParams, ServerNotInitialized}
use Rattle.lsp_rpc.specs.declared.method.Method.{Method}
use Rattle.lsp_rpc.specs.declared.method.Method.TheVariants.{Initialize, Shutdown, Exit, DidOpen, DidChange, DidSave, DidClose, DocumentDiagnostic, WorkspaceDiagnostic, WorkspaceSymbol, Definition, References, Rename}
use Rattle.workspace_uri.specs.Uri as uri
use Rattle.work_config.specs.Configuration.{Configuration, files_of}
use Rattle.work_files.specs.Files.{Files, workspace, opened_files, changed_files, saved_files, closed_files, root_at, file_at, text_at, AreInPathOrder, HasTextsOfWorkspace}
use Rattle.work_files.specs.Texts.{is_open}
use Rattle.work_index.specs.Workspace.{sources_of}
use Rattle.lsp_answers.specs.Context.{Context}
use Rattle.lsp_answers.specs.Questions as questions
use Rattle.lsp_answers.specs.Questions.{DocumentPlaceData, QuestionData}
use Rattle.lsp_answers.specs.Reports.{publications, ReportsAreOfDocuments, PublicationsAreReports}
use Rattle.lsp_core.specs.declared.phase.Phase.{Phase}
use Rattle.lsp_core.specs.declared.phase.Phase.TheVariants.{Uninitialized, Running, Shut, Exited}

-- the texts of the roots, what the client can do, how far the session has come, the files that it knows, and whether texts that aren't proto3 are
-- read for what they declare
pub record State : Type 0 where
  pub roots : List (List ℕ)
  pub client : ClientData
  pub phase : Phase
  pub files : Files
  pub reads_others : Bool

-- what is still to be answered to a message that has begun: replies that are known at once; a question about the files that the
-- message leaves; what is wrong in each open document; or, under the URI of its last open, that nothing is wrong in one that was closed
pub data Pending : Type 0 where
  Now : List Data → Pending
  Ask : IdData → QuestionData → Pending
  Publish : Pending
  Clear : List ℕ → Pending

-- what a message changes at once, and what is still to be answered to it
pub record Turn : Type 0 where
  pub state : State
  pub pending : Pending

abbrev pub silent : State → Turn
silent s = record { state = s; pending = Now [] }

abbrev pub answer : State → IdData → Data → Turn
answer s id result = record { state = s; pending = Now (result_reply id result ∷ []) }

abbrev pub refuse : State → Option IdData → ErrorCode → Turn
refuse s id code = record { state = s; pending = Now (error_reply id code ∷ []) }

abbrev pub enter : Phase → State → State
enter phase s = record s { phase = phase }

-- ---- documents

-- the path of the document with a URI, which may depend on the root under which a file was found; what is no URL has none
abbrev pub path_of : State → List ℕ → Option (List ℕ)
path_of s text = uri.path_of (root_at s.files) s.roots text

-- the path of the document that the params name, and those of an open and of a change, which have to be good as a whole
abbrev pub path_in : State → Data → Option (List ℕ)
path_in s params = option_and_then (path_of s) (uri_of params)

abbrev pub opened_path : State → Data → Option (List ℕ)
opened_path s params = option_and_then (λ o. path_of s o.uri) (opened_of params)

abbrev pub changed_path : State → Data → Option (List ℕ)
changed_path s params = option_and_then (λ c. path_of s c.document.uri) (changed_of params)

-- what becomes of the files of a state at a path; without one nothing changes
abbrev pub at_path : (List ℕ → Files → Files) → State → Option (List ℕ) → State
at_path become s None = s
at_path become s (Some path) = record s { files = become path s.files }

-- bad params change nothing, and neither does a URI that is no URL
abbrev pub opened : State → Option OpenedDocument → State
opened s None = s
opened s (Some o) = at_path (opened_files o.uri (record { version = o.version; text = o.text })) s (path_of s o.uri)

-- the places of changes count characters as the client does
abbrev pub changed : State → Option ChangedDocument → State
changed s None = s
changed s (Some c) = at_path (changed_files c.document.version s.client.encoding c.changes) s (path_of s c.document.uri)

abbrev pub saved : State → Data → State
saved s params = at_path saved_files s (path_in s params)

abbrev pub closed : State → Data → State
closed s params = at_path closed_files s (path_in s params)

-- ---- requests

-- the path and the text of the document at a path, if it is one of the workspace
abbrev pub document_at : List ℕ → Files → Option (List ℕ × List ℕ)
document_at path files = option_map (λ text. (path, text)) (text_at path files)

-- the path of the document that the params name, if it is one of the workspace
abbrev pub document_in : State → Data → Option (List ℕ)
document_in s params = option_map (λ document. document.0) (option_and_then (λ path. document_at path s.files) (path_in s params))

-- the path of a document of the workspace, and the offset of a position in it, which counts characters as the client does
abbrev pub place_in : State → PlaceData → Option DocumentPlaceData
place_in s p =
    option_map (λ document. record { path = document.0; offset = offset_of s.client.encoding p.position document.1 })
    (option_and_then (λ path. document_at path s.files) (path_of s p.uri))

-- what a request asks, if it is one of the six that ask for an analysis, its params are good, and the document that it names is in
-- the workspace
abbrev pub question : State → Method → Data → Option QuestionData
question s DocumentDiagnostic params = option_map questions.Diagnostics (document_in s params)
question s WorkspaceDiagnostic params = Some questions.AllDiagnostics
question s WorkspaceSymbol params = option_map questions.Symbols (query_of params)
question s Definition params = option_map questions.Definition (option_and_then (place_in s) (place_of params))
question s References params = option_and_then (λ r. option_map (λ at. questions.References at r.include_declaration) (place_in s r.place)) (reference_of params)
question s Rename params = option_and_then (λ r. option_map (λ at. questions.Rename at r.new_name) (place_in s r.place)) (rename_of params)
question s _ params = None

-- params that ask nothing are bad
abbrev pub asked : IdData → Option QuestionData → Pending
asked id None = Now (error_reply (Some id) InvalidParams ∷ [])
asked id (Some question) = Ask id question

abbrev pub ask : State → IdData → Method → Data → Turn
ask s id method params = record { state = s; pending = asked id (question s method params) }

abbrev pub running_request : State → IdData → Option Method → Data → Turn
running_request s id (Some Initialize) params = refuse s (Some id) InvalidRequest
running_request s id (Some Shutdown) params = answer (enter Shut s) id null
running_request s id (Some DocumentDiagnostic) params = ask s id DocumentDiagnostic params
running_request s id (Some WorkspaceDiagnostic) params = ask s id WorkspaceDiagnostic params
running_request s id (Some WorkspaceSymbol) params = ask s id WorkspaceSymbol params
running_request s id (Some Definition) params = ask s id Definition params
running_request s id (Some References) params = ask s id References params
running_request s id (Some Rename) params = ask s id Rename params
running_request s id _ params = refuse s (Some id) MethodNotFound

-- the server runs, for this client
abbrev pub initialized : ClientData → State → State
initialized client s = record s { client = client; phase = Running }

-- the first request that counts is `initialize`; its reply names the encoding
abbrev pub first_request : State → IdData → Option Method → Data → Turn
first_request s id (Some Initialize) params = answer (initialized (client_of params) s) id (initialize_result (client_of params).encoding)
first_request s id _ params = refuse s (Some id) ServerNotInitialized

abbrev pub requested : Phase → State → IdData → Option Method → Data → Turn
requested Uninitialized s id method params = first_request s id method params
requested Running s id method params = running_request s id method params
requested Shut s id method params = refuse s (Some id) InvalidRequest
requested (Exited after_shutdown) s id method params = silent s

-- ---- notifications

-- only an exit counts
abbrev pub exits : Bool → State → Option Method → State
exits after_shutdown s (Some Exit) = enter (Exited after_shutdown) s
exits after_shutdown s _ = s

abbrev pub running_notification : State → Option Method → Data → State
running_notification s (Some Exit) params = enter (Exited false) s
running_notification s (Some DidOpen) params = opened s (opened_of params)
running_notification s (Some DidChange) params = changed s (changed_of params)
running_notification s (Some DidSave) params = saved s params
running_notification s (Some DidClose) params = closed s params
running_notification s _ params = s

abbrev pub notified : Phase → State → Option Method → Data → State
notified Uninitialized s method params = exits false s method
notified Running s method params = running_notification s method params
notified Shut s method params = exits true s method
notified (Exited after_shutdown) s method params = s

-- ---- what is published

-- nothing to a client that asks for diagnostics itself
abbrev pub for_client : ClientData → Pending → Pending
for_client client pending = if client.pulls_diagnostics then Now [] else pending

-- after an open, each open document
abbrev pub after_open : Option (List ℕ) → Pending
after_open None = Now []
after_open (Some path) = Publish

-- after a change or a save of an open document too
abbrev pub after_change : Files → Option (List ℕ) → Pending
after_change files None = Now []
after_change files (Some path) = if is_open path files then Publish else Now []

-- the URI of the last open of the document at a path, if it is open
abbrev pub open_uri : Files → List ℕ → Option (List ℕ)
open_uri files path = if is_open path files then option_and_then (λ f. f.uri) (file_at path files) else None

abbrev pub cleared : Option (List ℕ) → Pending
cleared None = Now []
cleared (Some uri) = Clear uri

-- after a close of an open document that document alone, under the URI that it had; the files are those before the close
abbrev pub after_close : Files → Option (List ℕ) → Pending
after_close files path = cleared (option_and_then (open_uri files) path)

abbrev pub running_publishes : State → Option Method → Data → Pending
running_publishes s (Some DidOpen) params = after_open (opened_path s params)
running_publishes s (Some DidChange) params = after_change s.files (changed_path s params)
running_publishes s (Some DidSave) params = after_change s.files (path_in s params)
running_publishes s (Some DidClose) params = after_close s.files (path_in s params)
running_publishes s _ params = Now []

-- what is left to be answered to a notification
abbrev pub publishes : Phase → State → Option Method → Data → Pending
publishes Running s method params = for_client s.client (running_publishes s method params)
publishes _ s method params = Now []

-- ---- the turns of messages

abbrev pub received : State → MessageData → Turn
received s parse_error = refuse s None ParseError
received s (invalid_request id) = refuse s id InvalidRequest
received s response = silent s
received s (request id method params) = requested s.phase s id method params
received s (notification method params) = record { state = notified s.phase s method params; pending = publishes s.phase s method params }

-- after an exit every message is dropped
abbrev pub turn_in : Phase → State → MessageData → Turn
turn_in (Exited after_shutdown) s m = silent s
turn_in _ s m = received s m

abbrev pub turn : State → MessageData → Turn
turn s m = turn_in s.phase s m

-- the state before the first message: nothing is known of the client, no document is open, and the texts of the files on disk are kept
abbrev pub start : Configuration → State
start config = record { roots = config.roots; client = default_client; phase = Uninitialized; files = files_of config; reads_others = config.reads_others }

-- ---- replies

-- what answers are made from: the files as they are, and the encoding of the client
abbrev pub context_of : State → Context
context_of s = record { roots = s.roots; encoding = s.client.encoding; files = s.files; workspace = sources_of s.reads_others (workspace s.files) }

-- a publication that nothing is wrong in the document with a URI, which has no version any more
abbrev pub clearing : List ℕ → Data
clearing uri = publication_value (record { diagnostics = []; uri = uri; version = None })

-- the replies that were left to be given, in the state that the message leaves
abbrev pub replies_of : State → Pending → List Data
replies_of s (Now replies) = replies
replies_of s (Ask id question) = questions.answer (context_of s) id question
replies_of s Publish = publications (context_of s)
replies_of s (Clear uri) = clearing uri ∷ []

-- the replies to a message
abbrev pub replies_to : State → MessageData → List Data
replies_to s m = let t = turn s m in replies_of t.state t.pending

-- whether the replies have to wait until the work on each text is there
abbrev pub waits : Pending → Bool
waits (Now replies) = false
waits _ = true

-- whether they are made of an analysis of the files
abbrev pub needs_analysis : Pending → Bool
needs_analysis (Ask id question) = true
needs_analysis Publish = true
needs_analysis _ = false

-- ---- the session

-- the state after some messages, and the bodies of the replies to them
pub record Run : Type 0 where
  pub state : State
  pub replies : List (List ℕ)

abbrev pub next : Run → List ℕ → Run
next r body = record {
  state = (turn r.state (message_of body)).state;
  replies = r.replies ++ map compact_text (replies_to r.state (message_of body));
}

-- the session after the messages with these bodies
unfoldable pub session : Configuration → List (List ℕ) → Run
session config bodies = fold next (record { state = start config; replies = [] }) bodies

-- ---- the client of a session

-- once the session isn't uninitialized any more, no message changes what is known of the client
abbrev pub ClientStays : Type 0
ClientStays = (config : Configuration) (bodies later : List (List ℕ)) → ¬ ((session config bodies).state.phase ≡ Uninitialized) → (session config (bodies ++ later)).state.client ≡ (session config bodies).state.client

-- ---- the files of a session, whatever messages came

-- their paths ascend
abbrev pub FilesAreInPathOrder : Type 0
FilesAreInPathOrder = (config : Configuration) (bodies : List (List ℕ)) → AreInPathOrder (session config bodies).state.files

-- the text of a document is that of the workspace at its path
abbrev pub DocumentsAreOfTheWorkspace : Type 0
DocumentsAreOfTheWorkspace = (config : Configuration) (bodies : List (List ℕ)) → HasTextsOfWorkspace (session config bodies).state.files

-- the reports of all documents have the diagnostics that the report of each one has
abbrev pub ReportsAgree : Type 0
ReportsAgree = (config : Configuration) (bodies : List (List ℕ)) → ReportsAreOfDocuments (context_of (session config bodies).state)

-- what is published is said of the open documents among these reports
abbrev pub PublicationsAgree : Type 0
PublicationsAgree = (config : Configuration) (bodies : List (List ℕ)) → PublicationsAreReports (context_of (session config bodies).state)

-- whether an exit came, and if so, whether a shutdown came before it
abbrev pub exit_of : Phase → Option Bool
exit_of (Exited after_shutdown) = Some after_shutdown
exit_of _ = None

abbrev pub is_exited : Phase → Bool
is_exited phase = is_some (exit_of phase)
