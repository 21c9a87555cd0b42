-- The board of a core has the texts of the workspace that the messages leave that have begun.
use Rattle.std.proofs.Common.{◌≡◌, ℕ, List, [], ◌∷◌, ◌++◌, Bool, true, false, cond, Option, Some, None, is_some, take, refl, sym, ap, ◌∙◌}
use Rattle.std.specs.Prelude.{option_and_then, if◌then◌else◌, bytes_eq}
use Rattle.std.specs.Map.{update}
use Rattle.collector_laws.specs.TextLaws.{text_after, EachEventGivesTheTexts, EventsGiveTheTexts}
use Rattle.piece_collector.specs.Events as work
use Rattle.serde_json.specs.Data.{Data}
use Rattle.lsp_rpc.specs.Message.{MessageData, parse_error, invalid_request, response, request, notification, message_of}
use Rattle.lsp_rpc.specs.Params.{OpenedDocument, ChangedDocument, opened_of, changed_of}
use Rattle.lsp_rpc.specs.declared.method.Method.{Method}
use Rattle.lsp_rpc.specs.declared.method.Method.TheVariants.{Exit, DidOpen, DidChange, DidSave, DidClose}
use Rattle.work_config.specs.Configuration.{Configuration, files_of, in_root_order}
use Rattle.work_files.specs.Files.{OpenDocument, Files, set_file, text_at, changed_file, changed_files, saved_files, closed_at, closed_files, opened_files, AreInPathOrder}
use Rattle.work_files.specs.Texts.{TextsChangeAt, TextsChangeAtOnePath, open_document, is_open}
use Rattle.work_space.specs.BoardTexts.{text_event, event_at, events_at}
use Rattle.work_files.proofs.DocumentLemmas.{none_open}
use Rattle.work_space.proofs.FirstEvents.{texts_of_first}
use Rattle.work_files.proofs.PathOrder.{from_disk-order}
use Rattle.work_files.proofs.TextChanges.{by_own}
use Rattle.lsp_core.specs.Core.{Event, Arrive, Advance, Give, Offer, Fail, messages, done, next_body, state_after, board_events, IsLegal}
use Rattle.lsp_core.specs.Session.{State, at_path, path_of, path_in, opened, changed, running_notification, notified, received, turn_in, turn, session}
use Rattle.lsp_core.specs.BoardEvents as on_board
use Rattle.lsp_core.specs.declared.phase.Phase.{Phase}
use Rattle.lsp_core.specs.declared.phase.Phase.TheVariants.{Uninitialized, Running, Shut, Exited}
use Rattle.lsp_core.specs.declared.step.Step.TheVariants.{Begin, Finish}
use Rattle.lsp_core.proofs.CoreLemmas.{session-none, begun-more, state-idle, state-begins, state-arrived}
use Rattle.lsp_core.proofs.FilesLemmas.{exits-files, requested-files, session-order}

module _ (o : ℕ) (law : EachEventGivesTheTexts) (one : TextsChangeAtOnePath) (events : List work.Event) where
  -- a path gets this text, or loses its text
  event-texts : (path : List ℕ) (t : Option (List ℕ)) (q : List ℕ) → text_after o (text_event path t ∷ events) q ≡ update bytes_eq (text_after o events) path t q
  event-texts path None q = law o (work.Remove path) events q
  event-texts path (Some t) q = law o (work.SetText path t) events q

  -- the board has the texts of the files
  abbrev Follow : List work.Event → Files → Type 0
  Follow later files = (q : List ℕ) → text_after o (later ++ events) q ≡ text_at q files

  follow-event : (path : List ℕ) (old new : Files) → Follow [] old → TextsChangeAt path (text_at path new) old new → Follow (event_at path new ∷ []) new
  follow-event path old new before changes q = event-texts path (text_at path new) q ∙ ap (cond (bytes_eq path q) (text_at path new)) (before q) ∙ sym (changes q)

  some-open : (old : Files) (path : List ℕ) (b : Bool) (new : Files) → Follow [] old → TextsChangeAt path (text_at path new) old new → (b ≡ false → old ≡ new) → Follow (if b then event_at path new ∷ [] else []) new
  some-open old path true new before changes same = follow-event path old new before changes
  some-open old path false new before changes same = λ q. before q ∙ ap (text_at q) (same refl)

  none-is : (d : Option OpenDocument) → is_some d ≡ false → d ≡ None
  none-is None e = refl
  none-is (Some d) e = cc

  follow-opened : (s : State) (d : Option OpenedDocument) → Follow [] s.files → Follow (on_board.events_for_path (λ path. event_at path (opened s d).files ∷ []) (option_and_then (λ d. path_of s d.uri) d)) (opened s d).files
  follow-opened s None before = before
  follow-opened s (Some d) before = by (path_of s d.uri)
    where
      document : OpenDocument
      document = record { version = d.version; text = d.text }

      by : (path : Option (List ℕ)) → Follow (on_board.events_for_path (λ p. event_at p (at_path (opened_files d.uri document) s path).files ∷ []) path) (at_path (opened_files d.uri document) s path).files
      by None = before
      by (Some path) = follow-event path s.files (opened_files d.uri document path s.files) before (by_own path (Some d.text) s.files (opened_files d.uri document path s.files) (one.opened d.uri document path s.files))

  follow-changed : (s : State) (c : Option ChangedDocument) → Follow [] s.files → Follow (on_board.events_for_path (λ path. events_at path s.files (changed s c).files) (option_and_then (λ c. path_of s c.document.uri) c)) (changed s c).files
  follow-changed s None before = before
  follow-changed s (Some c) before = by (path_of s c.document.uri)
    where
      become : List ℕ → Files → Files
      become = changed_files c.document.version s.client.encoding c.changes

      by : (path : Option (List ℕ)) → Follow (on_board.events_for_path (λ p. events_at p s.files (at_path (changed_files c.document.version s.client.encoding c.changes) s path).files) path) (at_path (changed_files c.document.version s.client.encoding c.changes) s path).files
      by None = before
      by (Some path) =
          let new = changed_files c.document.version s.client.encoding c.changes path s.files in
          some-open s.files path (is_open path s.files) new before (one.changed c.document.version s.client.encoding c.changes path s.files)
          (λ e. none_open path s.files (λ f d. set_file path (changed_file c.document.version s.client.encoding c.changes f d) s.files) (none-is (open_document path s.files) e))

  follow-closed : (s : State) (path : Option (List ℕ)) → AreInPathOrder s.files → Follow [] s.files → Follow (on_board.events_for_path (λ p. events_at p s.files (at_path closed_files s path).files) path) (at_path closed_files s path).files
  follow-closed s None order before = before
  follow-closed s (Some path) order before =
      some-open s.files path (is_open path s.files) (closed_files path s.files) before (one.closed path s.files order) (λ e. none_open path s.files (λ f d. closed_at path s.files f f.kept) (none-is (open_document path s.files) e))

  follow-saved : (s : State) (path : Option (List ℕ)) → Follow [] s.files → Follow [] (at_path saved_files s path).files
  follow-saved s None before = before
  follow-saved s (Some path) before = λ q. before q ∙ sym (one.saved path s.files q)

  follow-running : (s : State) (method : Option Method) (params : Data) → AreInPathOrder s.files → Follow [] s.files → Follow (on_board.events_by_method s method params (running_notification s method params).files) (running_notification s method params).files
  follow-running s (Some Exit) params order before = before
  follow-running s (Some DidOpen) params order before = follow-opened s (opened_of params) before
  follow-running s (Some DidChange) params order before = follow-changed s (changed_of params) before
  follow-running s (Some DidSave) params order before = follow-saved s (path_in s params) before
  follow-running s (Some DidClose) params order before = follow-closed s (path_in s params) order before
  follow-running s _ params order before = before

  follow-notified : (phase : Phase) (s : State) (method : Option Method) (params : Data) → AreInPathOrder s.files → Follow [] s.files → Follow (on_board.events_in_phase phase s method params (notified phase s method params).files) (notified phase s method params).files
  follow-notified Uninitialized s method params order before = λ q. before q ∙ ap (text_at q) (sym (exits-files false s method))
  follow-notified Running s method params order before = follow-running s method params order before
  follow-notified Shut s method params order before = λ q. before q ∙ ap (text_at q) (sym (exits-files true s method))
  follow-notified (Exited after_shutdown) s method params order before = before

  follow-received : (s : State) (m : MessageData) → AreInPathOrder s.files → Follow [] s.files → Follow (on_board.events_of s m (received s m).state.files) (received s m).state.files
  follow-received s parse_error order before = before
  follow-received s (invalid_request id) order before = before
  follow-received s response order before = before
  follow-received s (request id method params) order before = λ q. before q ∙ ap (text_at q) (sym (requested-files s.phase s id method params))
  follow-received s (notification method params) order before = follow-notified s.phase s method params order before

  -- behind an exit nothing is done
  told-exited : (s : State) (after_shutdown : Bool) (m : MessageData) (files : Files) → s.phase ≡ Exited after_shutdown → on_board.events_of s m files ≡ []
  told-exited s after_shutdown parse_error files is = refl
  told-exited s after_shutdown (invalid_request id) files is = refl
  told-exited s after_shutdown response files is = refl
  told-exited s after_shutdown (request id method params) files is = refl
  told-exited s after_shutdown (notification method params) files is = ap (λ phase. on_board.events_in_phase phase s method params files) is

  pub follow-turn : (s : State) (m : MessageData) → AreInPathOrder s.files → Follow [] s.files → Follow (on_board.board_events_of s m) (turn s m).state.files
  follow-turn s m order before = by s.phase refl
    where
      by : (phase : Phase) → s.phase ≡ phase → Follow (on_board.events_of s m (turn_in phase s m).state.files) (turn_in phase s m).state.files
      by Uninitialized is = follow-received s m order before
      by Running is = follow-received s m order before
      by Shut is = follow-received s m order before
      by (Exited after_shutdown) is = λ q. ap (λ later. text_after o (later ++ events) q) (told-exited s after_shutdown m s.files is) ∙ before q

-- ---- whatever has happened

module _ (o : ℕ) (config : Configuration) (law : EachEventGivesTheTexts) (all : EventsGiveTheTexts) (one : TextsChangeAtOnePath) where
  pub follows : (h : List Event) → IsLegal o config h → (path : List ℕ) → text_after o (board_events config h) path ≡ text_at path (state_after config h).files
  follows [] legal path = texts_of_first all o (files_of config) (from_disk-order (in_root_order config)) path ∙ ap (λ r. text_at path r.state.files) (sym (session-none config))
  follows (Arrive body ∷ h) legal path = follows h legal path ∙ ap (λ s. text_at path s.files) (sym (state-arrived o config h body legal))
  follows (Advance Begin ∷ h) legal path =
      let may = legal.0 in
      let s = (session config (done h)).state in
      let before : (q : List ℕ) → text_after o (board_events config h) q ≡ text_at q s.files = λ q. follows h legal.1 q ∙ ap (λ t. text_at q t.files) (state-idle config h may.idle) in
      follow-turn o law one (board_events config h) s (message_of (next_body h)) (session-order config (done h)) before path ∙ ap (λ t. text_at path t.files) (sym (state-begins config h may.there))
  follows (Advance Finish ∷ h) legal path =
      let may = legal.0 in
      follows h legal.1 path ∙ ap (λ n. text_at path (session config (take n (messages h))).state.files) (begun-more h may.begun)
  follows (Give ∷ h) legal path = law o work.NextJob (board_events config h) path ∙ follows h legal path
  follows (Offer p s t ∷ h) legal path = law o (work.Offer p s t) (board_events config h) path ∙ follows h legal path
  follows (Fail p s ∷ h) legal path = law o (work.Fail p s) (board_events config h) path ∙ follows h legal path
