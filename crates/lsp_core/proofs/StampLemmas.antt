-- How many stamps a core has given.
use Rattle.std.proofs.Common.{◌≡◌, ℕ, ℤ, suc, ◌+◌, ◌<◌, ◌≤◌, List, [], ◌∷◌, ◌++◌, Bool, true, false, length, map, Option, Some, None, is_some, refl, sym, ap, ap₂, subst, ◌∙◌, arith, append_assoc}
use Rattle.std.specs.Prelude.{if◌then◌else◌, option_and_then, IsSome}
use Rattle.std.proofs.lemmas.List.{map-append}
use Rattle.doc_text.specs.Edits.{ChangeData}
use Rattle.doc_text.specs.declared.encoding.Encoding.{Encoding}
use Rattle.piece_collector.specs.Events as work
use Rattle.piece_collector.specs.History.{sets, history}
use Rattle.serde_json.specs.Data.{Data}
use Rattle.lsp_rpc.specs.Message.{MessageData, parse_error, invalid_request, response, request, notification, message_of}
use Rattle.lsp_rpc.specs.Params.{OpenedDocument, ChangedDocument, opened_of, changed_of}
use Rattle.lsp_rpc.specs.declared.method.Method.{Method}
use Rattle.lsp_rpc.specs.declared.method.Method.TheVariants.{DidOpen, DidChange, DidClose}
use Rattle.work_files.specs.Files.{OpenDocument, File, Files, file_at, set_file, text_at, workspace, with_document, with_open_file, opened_files, changed_file, changed_files, closed_files}
use Rattle.work_files.specs.Texts.{is_open}
use Rattle.work_files.proofs.TextChanges.{own, set-texts, texts_change}
use Rattle.work_space.specs.BoardTexts.{StampsRunOut, text_event, event_at, events_at}
use Rattle.work_space.proofs.FirstEvents.{sets-first}
use Rattle.work_config.specs.Configuration.{Configuration, files_of}
use Rattle.lsp_core.specs.Core.{Event, Arrive, Advance, Give, Offer, Fail, messages, begun, processed, done, next_body, board_events, IsLegal, CoreState, IsAfter, FindsNoStamp, ExhaustsStamps}
use Rattle.lsp_core.specs.Session.{State, turn, path_of, path_in, opened_path, changed_path, at_path, opened, changed, closed, session}
use Rattle.lsp_core.specs.View.{IsExhausted}
use Rattle.lsp_core.specs.BoardEvents.{events_for_path, events_by_method, events_in_phase, events_of, board_events_of, SetsText}
use Rattle.lsp_core.specs.declared.phase.Phase.{Phase}
use Rattle.lsp_core.specs.declared.phase.Phase.TheVariants.{Uninitialized, Running, Shut, Exited}
use Rattle.lsp_core.specs.declared.step.Step.{Step}
use Rattle.lsp_core.specs.declared.step.Step.TheVariants.{Begin, Finish}
use Rattle.lsp_core.proofs.CoreLemmas.{begun-idle, begun-more, known, state-idle, may-begin, first-is, messages-steps}

-- an event sets one text at most
sets-events : (o : ℕ) (es events : List work.Event) → sets (history o (es ++ events)) ≤ length es + sets (history o events)
sets-events o [] events = omega arith
sets-events o (work.SetText path text ∷ es) events = let behind = sets-events o es events in omega (arith, behind)
sets-events o (work.Remove path ∷ es) events = let behind = sets-events o es events in omega (arith, behind)
sets-events o (work.NextJob ∷ es) events = let behind = sets-events o es events in omega (arith, behind)
sets-events o (work.Offer path stamp text ∷ es) events = let behind = sets-events o es events in omega (arith, behind)
sets-events o (work.Fail path stamp ∷ es) events = let behind = sets-events o es events in omega (arith, behind)

-- ---- a message does one thing at most to the board

for-path : (events : List ℕ → List work.Event) (path : Option (List ℕ)) → ((p : List ℕ) → length (events p) ≤ 1) → length (events_for_path events path) ≤ 1
for-path events None one = omega arith
for-path events (Some path) one = one path

if-open : (b : Bool) (event : work.Event) → length (if b then event ∷ [] else []) ≤ 1
if-open true event = omega arith
if-open false event = omega arith

by-method : (s : State) (method : Option Method) (params : Data) (files : Files) → length (events_by_method s method params files) ≤ 1
by-method s (Some DidOpen) params files = for-path (λ path. event_at path files ∷ []) (opened_path s params) (λ path. omega arith)
by-method s (Some DidChange) params files = for-path (λ path. events_at path s.files files) (changed_path s params) (λ path. if-open (is_open path s.files) (event_at path files))
by-method s (Some DidClose) params files = for-path (λ path. events_at path s.files files) (path_in s params) (λ path. if-open (is_open path s.files) (event_at path files))
by-method s _ params files = omega arith

in-phase : (phase : Phase) (s : State) (method : Option Method) (params : Data) (files : Files) → length (events_in_phase phase s method params files) ≤ 1
in-phase Running s method params files = by-method s method params files
in-phase Uninitialized s method params files = omega arith
in-phase Shut s method params files = omega arith
in-phase (Exited after_shutdown) s method params files = omega arith

of-message : (s : State) (m : MessageData) (files : Files) → length (events_of s m files) ≤ 1
of-message s parse_error files = omega arith
of-message s (invalid_request id) files = omega arith
of-message s response files = omega arith
of-message s (request id method params) files = omega arith
of-message s (notification method params) files = in-phase s.phase s method params files

-- ---- which messages set a text

set-text : (path : List ℕ) (text : Option (List ℕ)) → IsSome text → SetsText (text_event path text ∷ [])
set-text path None some = cc
set-text path (Some text) some = (path, text, refl)

set-open : (path : List ℕ) (files : Files) (b : Bool) → b ≡ true → IsSome (text_at path files) → SetsText (if b then event_at path files ∷ [] else [])
set-open path files true there some = set-text path (text_at path files) some
set-open path files false there some = cc

-- the document at a path has a text, after an open and after changes
opened-text : (uri : List ℕ) (d : OpenDocument) (path : List ℕ) (files : Files) → IsSome (text_at path (opened_files uri d path files))
opened-text uri d path files = subst IsSome (sym (own path (Some d.text) files (opened_files uri d path files) (texts_change.opened uri d path files))) refl

module _ (version : ℤ) (encoding : Encoding) (changes : List ChangeData) (path : List ℕ) (files : Files) where
  changed-text : (o : Option File) → file_at path files ≡ o → is_some (option_and_then (λ f. f.document) o) ≡ true → IsSome (text_at path (with_open_file (λ f d. set_file path (changed_file version encoding changes f d) files) files o))
  changed-text None found there = cc
  changed-text (Some f) found there = by f.document there
    where
      by : (o : Option OpenDocument) → is_some o ≡ true → IsSome (text_at path (with_document (λ f d. set_file path (changed_file version encoding changes f d) files) files f o))
      by None there = cc
      by (Some d) there =
          let new = set_file path (changed_file version encoding changes f d) files in
          subst IsSome (sym (own path _ files new (set-texts path (changed_file version encoding changes f d) f files found))) refl

-- an open sets the text of its path
pub open_sets : (s : State) (params : Data) (o : OpenedDocument) (path : List ℕ) → Some o ≡ opened_of params → Some path ≡ path_of s o.uri
    → SetsText (events_for_path (λ p. event_at p (opened s (opened_of params)).files ∷ []) (opened_path s params))
open_sets s params o path good found =
    let d : OpenDocument = record { version = o.version; text = o.text } in
    subst (λ (g : Option OpenedDocument). SetsText (events_for_path (λ p. event_at p (opened s g).files ∷ []) (option_and_then (λ e. path_of s e.uri) g))) good
    (subst (λ (f : Option (List ℕ)). SetsText (events_for_path (λ p. event_at p (at_path (opened_files o.uri d) s f).files ∷ []) f)) found
    (set-text path (text_at path (opened_files o.uri d path s.files)) (opened-text o.uri d path s.files)))

-- changes of an open document set it
pub change_sets : (s : State) (params : Data) (c : ChangedDocument) (path : List ℕ) → Some c ≡ changed_of params → Some path ≡ path_of s c.document.uri → is_open path s.files ≡ true
    → SetsText (events_for_path (λ p. events_at p s.files (changed s (changed_of params)).files) (changed_path s params))
change_sets s params c path good found there =
    let become = changed_files c.document.version s.client.encoding c.changes in
    subst (λ (g : Option ChangedDocument). SetsText (events_for_path (λ p. events_at p s.files (changed s g).files) (option_and_then (λ e. path_of s e.document.uri) g))) good
    (subst (λ (f : Option (List ℕ)). SetsText (events_for_path (λ p. events_at p s.files (at_path become s f).files) f)) found
    (set-open path (become path s.files) (is_open path s.files) there (changed-text c.document.version s.client.encoding c.changes path s.files (file_at path s.files) refl there)))

-- a close of one sets the text that the path has then
pub close_sets : (s : State) (params : Data) (path : List ℕ) → Some path ≡ path_in s params → is_open path s.files ≡ true → IsSome (text_at path (closed_files path s.files))
    → SetsText (events_for_path (λ p. events_at p s.files (closed s params).files) (path_in s params))
close_sets s params path found there some =
    subst (λ (f : Option (List ℕ)). SetsText (events_for_path (λ p. events_at p s.files (at_path closed_files s f).files) f)) found
    (set-open path (closed_files path s.files) (is_open path s.files) there some)

-- it gets one stamp
set-more : (o : ℕ) (events before : List work.Event) → SetsText events → sets (history o (events ++ before)) ≡ sets (history o before) + 1
set-more o events before text = subst (λ es. sets (history o (es ++ before)) ≡ sets (history o before) + 1) (sym text.2) refl

-- ---- whatever has happened

module _ (o : ℕ) (config : Configuration) where
  -- a stamp for each file on disk, and one at most for each message that has begun
  at_most : (h : List Event) → IsLegal o config h → sets (history o (board_events config h)) ≤ length (workspace (files_of config)) + begun h
  at_most [] legal = omega (arith, sets-first o (workspace (files_of config)))
  at_most (Arrive body ∷ h) legal = at_most h legal
  at_most (Advance Begin ∷ h) legal =
      let may = legal.0 in
      let before = at_most h legal.1 in
      let s = (session config (done h)).state in
      let m = message_of (next_body h) in
      let one : length (board_events_of s m) ≤ 1 = of-message s m (turn s m).state.files in
      let more : sets (history o (board_events config (Advance Begin ∷ h))) ≤ length (board_events_of s m) + sets (history o (board_events config h)) = sets-events o (board_events_of s m) (board_events config h) in
      let now : begun (Advance Begin ∷ h) ≡ suc (processed h) = refl in
      omega (arith, before, one, more, now, begun-idle h may.idle)
  at_most (Advance Finish ∷ h) legal =
      let may = legal.0 in
      let before = at_most h legal.1 in
      let now : begun (Advance Finish ∷ h) ≡ suc (processed h) = refl in
      omega (arith, before, now, begun-more h may.begun)
  at_most (Give ∷ h) legal = at_most h legal
  at_most (Offer path stamp text ∷ h) legal = at_most h legal
  at_most (Fail path stamp ∷ h) legal = at_most h legal

  -- the next message sets a text, and finds no stamp
  pub next_finds_none : (core : CoreState) (h : List Event) (m : MessageData) (ms : List MessageData) → IsAfter o config core h → core.pending ≡ None → 0 < length core.queue → core.queue ≡ m ∷ ms → IsExhausted core.board
      → SetsText (board_events_of core.state m) → FindsNoStamp o config h
  next_finds_none core h m ms after none some first exhausted text =
      let may = may-begin o config core h after none some in
      let both = first-is o config core h m ms after may first in
      let same : m ≡ message_of (next_body h) = cc in
      let before : core.state ≡ (session config (done h)).state = after.state ∙ state-idle config h may.idle in
      let events = board_events_of (session config (done h)).state (message_of (next_body h)) in
      let more : sets (history o (board_events config (Advance Begin ∷ h))) ≡ sets (history o (board_events config h)) + 1 = set-more o events (board_events config h) (subst SetsText (ap₂ board_events_of before same) text) in
      let last = after.board.last in
      let given : core.board.last ≡ 18446744073709551615 = exhausted in
      record { steps = Begin ∷ []; legal = (may, after.legal); run_out = omega (arith, more, last, given) }

  -- a later message does
  pub later_finds_none : (steps : List Step) (h : List Event) → FindsNoStamp o config (map Advance steps ++ h) → FindsNoStamp o config h
  later_finds_none steps h f =
      let same : map Advance f.steps ++ (map Advance steps ++ h) ≡ map Advance (f.steps ++ steps) ++ h = sym (append_assoc (map Advance f.steps) (map Advance steps) h) ∙ ap (λ l. l ++ h) (sym (map-append Advance f.steps steps)) in
      record {
        steps = f.steps ++ steps;
        legal = subst (λ g. IsLegal o config g) same f.legal;
        run_out = subst (λ g. StampsRunOut o (sets (history o (board_events config g)))) same f.run_out;
      }

  -- then the files on disk and the messages that came are more than the stamps
  pub exhausts_stamps : (h : List Event) → FindsNoStamp o config h → ExhaustsStamps o config (length (messages h))
  exhausts_stamps h f =
      let now = map Advance f.steps ++ h in
      let few = at_most now f.legal in
      let all = known o config now f.legal in
      let came = ap length (messages-steps f.steps h) in
      let out = f.run_out in
      omega (arith, few, all, came, out)

-- so it is with any messages, where the files on disk alone are more than there are stamps
pub files_alone : (config : Configuration) (count : ℕ) → StampsRunOut 0 (length (workspace (files_of config))) → ExhaustsStamps 0 config count
files_alone config count out = omega (arith, out)
