-- Whatever messages came, the URI of each file leads back to its path.
use Rattle.std.proofs.Common.{◌≡◌, ◌∙◌, ℕ, suc, ℤ, ◌<◌, Bool, true, false, cond, List, [], ◌∷◌, ◌++◌, Option, Some, None, length, get_or, take, drop, filter, fold, refl, sym, ap, subst, arith, drop-cons, length-take-le, take-append-drop}
use Rattle.std.specs.Prelude.{All, ◌==◌, bytes_eq, option_and_then, option_map}
use Rattle.std.specs.Cmp.Lexicographic.{bytes_decides}
use Rattle.std.specs.List.{flat_map, range_with_len}
use Rattle.std.specs.Map.{lookup, remove_entry}
use Rattle.std.proofs.lemmas.Bool.{le-ltb}
use Rattle.std.proofs.lemmas.List.Elements.{All-append, All-filter, All-head, All-nil, All-tail}
use Rattle.doc_text.specs.Edits.{ChangeData}
use Rattle.doc_text.specs.declared.encoding.Encoding.{Encoding}
use Rattle.serde_json.specs.Data.{Data}
use Rattle.workspace_uri.specs.Laws.{FileUrisOfSeveralRoots}
use Rattle.workspace_uri.specs.Uri as uris
use Rattle.lsp_rpc.specs.Message.{IdData, MessageData, parse_error, invalid_request, response, request, notification, message_of}
use Rattle.lsp_rpc.specs.Params.{OpenedDocument, ChangedDocument, opened_of, changed_of}
use Rattle.lsp_rpc.specs.declared.method.Method.{Method}
use Rattle.lsp_rpc.specs.declared.method.Method.TheVariants.{Initialize, Shutdown, Exit, DidOpen, DidChange, DidSave, DidClose, DocumentDiagnostic, WorkspaceDiagnostic, WorkspaceSymbol, Definition, References, Rename}
use Rattle.work_index.specs.Workspace.{Workspace, no_file, sources_of}
use Rattle.work_update.proofs.ByPath.{one_place, sources-ascend, text-at}
use Rattle.work_update.proofs.Updates.{read_as}
use Rattle.work_config.specs.Configuration.{Configuration, in_root_order}
use Rattle.work_files.specs.Disk.{FileData}
use Rattle.work_files.specs.Files.{OpenDocument, File, Files, empty_file, file_at, root_at, text_of, text_at, workspace, with_file, set_file, without_file, AreInPathOrder, disk_file, from_disk, opened_file, opened_at, opened_files, with_document, with_open_file, changed_file, changed_files, saved_file, saved_files, closed_at, closed_files}
use Rattle.work_files.specs.Roots.{FoundFilesAreKept, FoundFilesStayKept, RootsAreAsBefore, RootsStay}
use Rattle.work_space.proofs.Held.{source_in_workspace}
use Rattle.work_files.proofs.PathOrder.{changed_files-order, closed_files-order, from_disk-order, opened_files-order, saved_files-order}
use Rattle.work_files.proofs.WorkspaceOrder.{ascend-texts}
use Rattle.work_files.proofs.TextChanges.{file-set, file-with, file-without, file_by_bytes, same_test}
use Rattle.lsp_answers.specs.Answers.{uri_at}
use Rattle.lsp_answers.specs.Reports.{uri_of}
use Rattle.lsp_core.specs.Session.{State, Run, at_path, context_of, path_of, path_in, opened, changed, running_request, first_request, requested, exits, running_notification, notified, received, turn_in, start, next, session}
use Rattle.lsp_core.specs.declared.phase.Phase.{Phase}
use Rattle.lsp_core.specs.declared.phase.Phase.TheVariants.{Uninitialized, Running, Shut, Exited}
use Rattle.lsp_laws.specs.DocumentLaws.{RenamesEditUnderUris, UrisDiffer}
use Rattle.lsp_laws.specs.UriLaws.{HasOwnUri, RenamesOfASession, UrisLeadBack, UrisOfWrittenRoots, UrisStayApart}

-- the URI of a file at a path leads back to it, where the roots of the files are these
abbrev LeadsBack : List (List ℕ) → Files → List ℕ → File → Type 0
LeadsBack roots files path f = uris.path_of (root_at files) roots (uri_of roots path (Some f)) ≡ Some path

abbrev Lead : List (List ℕ) → Files → Type 0
Lead roots files = (path : List ℕ) (f : File) → file_at path files ≡ Some f → LeadsBack roots files path f

-- ---- where the file of one path changes

-- the path has this file in the new files, if it has one, and each other path has the file that it had
abbrev FileChangesAt : List ℕ → Option File → Files → Files → Type 0
FileChangesAt path o old new = (q : List ℕ) → file_at q new ≡ cond (bytes_eq path q) o (file_at q old)

with-changes : (path : List ℕ) (f : File) (files : Files) → FileChangesAt path (Some f) files (with_file path f files)
with-changes path f files q = file_by_bytes q (with_file path f files) ∙ file-with path q f files ∙ ap (cond (bytes_eq path q) (Some f)) (sym (file_by_bytes q files))

without-changes : (path : List ℕ) (files : Files) → AreInPathOrder files → FileChangesAt path None files (without_file path files)
without-changes path files order q =
    file_by_bytes q (without_file path files) ∙ ap (λ t. lookup (bytes_eq q) (remove_entry t files)) (same_test path) ∙ file-without path q files order ∙ ap (cond (bytes_eq path q) None) (sym (file_by_bytes q files))

module _ (roots : List (List ℕ)) where
  lead-changed : (path : List ℕ) (o : Option File) (old new : Files) → FileChangesAt path o old new → RootsAreAsBefore old new → ((f : File) → o ≡ Some f → LeadsBack roots old path f) → Lead roots old → Lead roots new
  lead-changed path o old new changes same own others q f is =
      let owners : root_at new ≡ root_at old = λ i p. same p i in
      ap (λ owner. uris.path_of owner roots (uri_of roots q (Some f))) owners ∙ by (bytes_eq path q) refl (sym (changes q) ∙ is)
    where
      by : (b : Bool) → bytes_eq path q ≡ b → cond b o (file_at q old) ≡ Some f → LeadsBack roots old q f
      by true here is = subst (λ p. LeadsBack roots old p f) ((bytes_decides path q).0 here) (own f is)
      by false other is = others q f is

  -- another file with the same URI in the place of the one at the path
  lead-set : (path : List ℕ) (f g : File) (files : Files) → file_at path files ≡ Some g → uri_of roots path (Some f) ≡ uri_of roots path (Some g) → Lead roots files → RootsAreAsBefore files (set_file path f files) → Lead roots (set_file path f files)
  lead-set path f g files found same lead roots_same =
      lead-changed path (Some f) files (set_file path f files) (λ q. file-set path q f g files found) roots_same
      (λ h is. ap (λ o. uris.path_of (root_at files) roots (uri_of roots path o)) (sym is) ∙ ap (uris.path_of (root_at files) roots) same ∙ lead path g found) lead

  -- ---- documents

  -- an open under a URI that leads to the path
  lead-opened : (uri : List ℕ) (d : OpenDocument) (path : List ℕ) (files : Files) → uris.path_of (root_at files) roots uri ≡ Some path → Lead roots files
      → (o : Option File) → file_at path files ≡ o → RootsAreAsBefore files (opened_at uri d path files o) → Lead roots (opened_at uri d path files o)
  lead-opened uri d path files there lead None found same =
      lead-changed path (Some (opened_file uri d empty_file)) files (with_file path (opened_file uri d empty_file) files) (with-changes path (opened_file uri d empty_file) files) same
      (λ h is. ap (λ o. uris.path_of (root_at files) roots (uri_of roots path o)) (sym is) ∙ there) lead
  lead-opened uri d path files there lead (Some f) found same =
      lead-changed path (Some (opened_file uri d f)) files (set_file path (opened_file uri d f) files) (λ q. file-set path q (opened_file uri d f) f files found) same
      (λ h is. ap (λ o. uris.path_of (root_at files) roots (uri_of roots path o)) (sym is) ∙ there) lead

  lead-closed : (path : List ℕ) (f : File) (files : Files) → file_at path files ≡ Some f → AreInPathOrder files → Lead roots files → (k : Option (List ℕ)) → RootsAreAsBefore files (closed_at path files f k) → Lead roots (closed_at path files f k)
  lead-closed path f files found order lead None same = lead-changed path None files (without_file path files) (without-changes path files order) same (λ h is. absurd (cc (is))) lead
  lead-closed path f files found order lead (Some kept) same = lead-set path (record f { document = None }) f files found refl lead same

-- what holds of the files, and of those after a step from an open document, holds after the step
module _ (path : List ℕ) (files : Files) (P : Files → Type 0) (become : File → OpenDocument → Files) where
  after-step : P files → ((f : File) (d : OpenDocument) → file_at path files ≡ Some f → P (become f d)) → (o : Option File) → file_at path files ≡ o → P (with_open_file become files o)
  after-step now each None found = now
  after-step now each (Some f) found = by f.document
    where
      by : (d : Option OpenDocument) → P (with_document become files f d)
      by None = now
      by (Some d) = each f d found

-- ---- the files of a session

record AreGood (roots : List (List ℕ)) (files : Files) : Type 0 where
  order : AreInPathOrder files
  kept : FoundFilesAreKept files
  lead : Lead roots files

abbrev IsGood : State → Type 0
IsGood s = AreGood s.roots s.files

module _ (stay : RootsStay) (keep : FoundFilesStayKept) where
  -- files that lead back after a step that leaves the roots do so
  abbrev LeadsAfter : List (List ℕ) → Files → Files → Type 0
  LeadsAfter roots files new = RootsAreAsBefore files new → Lead roots new

  opened-good : (roots : List (List ℕ)) (uri : List ℕ) (d : OpenDocument) (path : List ℕ) (files : Files) → uris.path_of (root_at files) roots uri ≡ Some path → AreGood roots files → AreGood roots (opened_files uri d path files)
  opened-good roots uri d path files there good = record {
    order = opened_files-order uri d path files good.order;
    kept = keep.opened uri d path files good.order good.kept;
    lead = lead-opened roots uri d path files there good.lead (file_at path files) refl (stay.opened uri d path files);
  }

  changed-good : (roots : List (List ℕ)) (version : ℤ) (encoding : Encoding) (changes : List ChangeData) (path : List ℕ) (files : Files) → AreGood roots files → AreGood roots (changed_files version encoding changes path files)
  changed-good roots version encoding changes path files good = record {
    order = changed_files-order version encoding changes path files good.order;
    kept = keep.changed version encoding changes path files good.order good.kept;
    lead = after-step path files (LeadsAfter roots files) (λ f d. set_file path (changed_file version encoding changes f d) files) (λ same. good.lead)
        (λ f d found. lead-set roots path (changed_file version encoding changes f d) f files found refl good.lead) (file_at path files) refl (stay.changed version encoding changes path files);
  }

  saved-good : (roots : List (List ℕ)) (path : List ℕ) (files : Files) → AreGood roots files → AreGood roots (saved_files path files)
  saved-good roots path files good = record {
    order = saved_files-order path files good.order;
    kept = keep.saved path files good.order good.kept;
    lead = after-step path files (LeadsAfter roots files) (λ f d. set_file path (saved_file f d) files) (λ same. good.lead)
        (λ f d found. lead-set roots path (saved_file f d) f files found refl good.lead) (file_at path files) refl (stay.saved path files);
  }

  closed-good : (roots : List (List ℕ)) (path : List ℕ) (files : Files) → AreGood roots files → AreGood roots (closed_files path files)
  closed-good roots path files good = record {
    order = closed_files-order path files good.order;
    kept = keep.closed path files good.order good.kept;
    lead = after-step path files (LeadsAfter roots files) (λ f d. closed_at path files f f.kept) (λ same. good.lead)
        (λ f d found. lead-closed roots path f files found good.order good.lead f.kept) (file_at path files) refl (stay.closed path files good.order good.kept);
  }

  at_path-good : (become : List ℕ → Files → Files) (s : State) → ((path : List ℕ) → AreGood s.roots s.files → AreGood s.roots (become path s.files)) → (path : Option (List ℕ)) → IsGood s → IsGood (at_path become s path)
  at_path-good become s keeps None good = good
  at_path-good become s keeps (Some path) good = keeps path good

  opens-good : (s : State) (o : Option OpenedDocument) → IsGood s → IsGood (opened s o)
  opens-good s None good = good
  opens-good s (Some o) good = by (path_of s o.uri) refl
    where
      document : OpenDocument
      document = record { version = o.version; text = o.text }

      by : (path : Option (List ℕ)) → path_of s o.uri ≡ path → IsGood (at_path (opened_files o.uri (record { version = o.version; text = o.text })) s path)
      by None is = good
      by (Some path) is = opened-good s.roots o.uri document path s.files is good

  changes-good : (s : State) (c : Option ChangedDocument) → IsGood s → IsGood (changed s c)
  changes-good s None good = good
  changes-good s (Some c) good =
      at_path-good (changed_files c.document.version s.client.encoding c.changes) s (λ path. changed-good s.roots c.document.version s.client.encoding c.changes path s.files) (path_of s c.document.uri) good

  -- ---- the turns of messages

  running_request-good : (s : State) (id : IdData) (method : Option Method) (params : Data) → IsGood s → IsGood (running_request s id method params).state
  running_request-good s id (Some Initialize) params good = good
  running_request-good s id (Some Shutdown) params good = good
  running_request-good s id (Some DocumentDiagnostic) params good = good
  running_request-good s id (Some WorkspaceDiagnostic) params good = good
  running_request-good s id (Some WorkspaceSymbol) params good = good
  running_request-good s id (Some Definition) params good = good
  running_request-good s id (Some References) params good = good
  running_request-good s id (Some Rename) params good = good
  running_request-good s id _ params good = good

  first_request-good : (s : State) (id : IdData) (method : Option Method) (params : Data) → IsGood s → IsGood (first_request s id method params).state
  first_request-good s id (Some Initialize) params good = good
  first_request-good s id _ params good = good

  requested-good : (phase : Phase) (s : State) (id : IdData) (method : Option Method) (params : Data) → IsGood s → IsGood (requested phase s id method params).state
  requested-good Uninitialized s id method params good = first_request-good s id method params good
  requested-good Running s id method params good = running_request-good s id method params good
  requested-good Shut s id method params good = good
  requested-good (Exited after_shutdown) s id method params good = good

  exits-good : (after_shutdown : Bool) (s : State) (method : Option Method) → IsGood s → IsGood (exits after_shutdown s method)
  exits-good after_shutdown s (Some Exit) good = good
  exits-good after_shutdown s _ good = good

  running_notification-good : (s : State) (method : Option Method) (params : Data) → IsGood s → IsGood (running_notification s method params)
  running_notification-good s (Some Exit) params good = good
  running_notification-good s (Some DidOpen) params good = opens-good s (opened_of params) good
  running_notification-good s (Some DidChange) params good = changes-good s (changed_of params) good
  running_notification-good s (Some DidSave) params good = at_path-good saved_files s (λ path. saved-good s.roots path s.files) (path_in s params) good
  running_notification-good s (Some DidClose) params good = at_path-good closed_files s (λ path. closed-good s.roots path s.files) (path_in s params) good
  running_notification-good s _ params good = good

  notified-good : (phase : Phase) (s : State) (method : Option Method) (params : Data) → IsGood s → IsGood (notified phase s method params)
  notified-good Uninitialized s method params good = exits-good false s method good
  notified-good Running s method params good = running_notification-good s method params good
  notified-good Shut s method params good = exits-good true s method good
  notified-good (Exited after_shutdown) s method params good = good

  received-good : (s : State) (m : MessageData) → IsGood s → IsGood (received s m).state
  received-good s parse_error good = good
  received-good s (invalid_request id) good = good
  received-good s response good = good
  received-good s (request id method params) good = requested-good s.phase s id method params good
  received-good s (notification method params) good = notified-good s.phase s method params good

  turn_in-good : (phase : Phase) (s : State) (m : MessageData) → IsGood s → IsGood (turn_in phase s m).state
  turn_in-good (Exited after_shutdown) s m good = good
  turn_in-good Uninitialized s m good = received-good s m good
  turn_in-good Running s m good = received-good s m good
  turn_in-good Shut s m good = received-good s m good

  run-good : (r : Run) (bodies : List (List ℕ)) → IsGood r.state → IsGood (fold next r bodies).state
  run-good r [] good = good
  run-good r (body ∷ bodies) good = run-good (next r body) bodies (turn_in-good r.state.phase r.state (message_of body) good)

  session-good : (config : Configuration) (bodies : List (List ℕ)) → UrisLeadBack (start config) → IsGood (session config bodies).state
  unfolding session
  session-good config bodies lead =
      run-good (record { state = start config; replies = [] }) bodies (record { order = from_disk-order (in_root_order config); kept = keep.begun (in_root_order config); lead = lead })

-- ---- no two files have one URI

module _ (s : State) (good : IsGood s) where
  abbrev known : Workspace
  known = sources_of s.reads_others (workspace s.files)

  abbrev path_at : ℕ → List ℕ
  path_at n = (get_or (sources_of s.reads_others (workspace s.files)) n no_file).0

  has-text : (n : ℕ) → n < length known → option_map (read_as s.reads_others) (text_at (path_at n) s.files) ≡ Some (get_or known n no_file).1
  has-text n lt = sym (source_in_workspace s.reads_others s.files good.order (path_at n)) ∙ text-at known n no_file (sources-ascend s.reads_others (workspace s.files) (ascend-texts s.files good.order)) lt

  leads-back : (n : ℕ) → n < length known → path_of s (uri_at (context_of s) n) ≡ Some (path_at n)
  leads-back n lt = by (file_at (path_at n) s.files) refl (has-text n lt)
    where
      by : (o : Option File) → file_at (path_at n) s.files ≡ o → option_map (read_as s.reads_others) (option_and_then text_of o) ≡ Some (get_or known n no_file).1 → path_of s (uri_of s.roots (path_at n) o) ≡ Some (path_at n)
      by None found text = absurd (cc (text))
      by (Some f) found text = good.lead (path_at n) f found

  uris-differ : UrisDiffer (context_of s)
  uris-differ m n first second same =
      let paths : Some (path_at m) ≡ Some (path_at n) = sym (leads-back m first) ∙ ap (path_of s) same ∙ leads-back n second in
      one_place known m n no_file (sources-ascend s.reads_others (workspace s.files) (ascend-texts s.files good.order)) first second (cc (paths))

pub uris-stay : RootsStay → FoundFilesStayKept → UrisStayApart
uris-stay stay keep config bodies lead =
    let good = session-good stay keep config bodies lead in
    record { lead_back = good.lead; differ = uris-differ (session config bodies).state good }

-- ---- the start

-- a file that stands at a path is one of those on disk
record IsOnDisk (P : FileData → Type 0) (path : List ℕ) (f : File) : Type 0 where
  found : FileData
  has : P found
  at : found.path ≡ path
  is : disk_file found.root found.text ≡ f

begun-on_disk : (P : FileData → Type 0) (fs : List FileData) → All P fs → (path : List ℕ) (f : File) → file_at path (from_disk fs) ≡ Some f → IsOnDisk P path f
begun-on_disk P [] all path f found = absurd (cc (found))
begun-on_disk P (g ∷ fs) all path f found =
    by (bytes_eq g.path path) refl (begun-on_disk P fs (All-tail P g fs all) path f) (sym (with-changes g.path (disk_file g.root g.text) (from_disk fs) path) ∙ found)
  where
    by : (b : Bool) → bytes_eq g.path path ≡ b → (file_at path (from_disk fs) ≡ Some f → IsOnDisk P path f) → cond b (Some (disk_file g.root g.text)) (file_at path (from_disk fs)) ≡ Some f → IsOnDisk P path f
    by true here rest is = record { found = g; has = All-head P g fs all; at = (bytes_decides g.path path).0 here; is = cc (is) }
    by false other rest is = rest is

-- what holds of all files holds of them in the order of their roots
all-ordered : (P : FileData → Type 0) (files : List FileData) → All P files → (numbers : List ℕ) → All P (flat_map (λ number. filter (λ f. f.root == number) files) numbers)
all-ordered P files all [] = All-nil P
all-ordered P files all (n ∷ numbers) =
    All-append P (filter (λ f. f.root == n) files) (flat_map (λ number. filter (λ f. f.root == number) files) numbers) (All-filter (λ f. f.root == n) P files all) (all-ordered P files all numbers)

module _ (law : FileUrisOfSeveralRoots) (roots : List (List ℕ)) (files : Files) (f : FileData) (h : HasOwnUri roots f) (found : file_at f.path files ≡ Some (disk_file f.root f.text)) where
  parts : take f.root roots ++ get_or roots f.root [] ∷ drop (suc f.root) roots ≡ roots
  parts = ap (λ l. take f.root roots ++ l) (sym (drop-cons roots f.root [] h.rooted)) ∙ take-append-drop f.root roots

  not_earlier : uris.is_of_earlier_root (length (take f.root roots)) (root_at files f.path) ≡ false
  not_earlier =
      let many : length (take f.root roots) ≡ f.root = length-take-le f.root roots (omega (arith, h.rooted)) in
      ap (λ o. uris.is_of_earlier_root (length (take f.root roots)) (option_and_then (λ f. f.root) o)) found ∙ le-ltb f.root (length (take f.root roots)) (omega (arith, many))

  own-leads : LeadsBack roots files f.path (disk_file f.root f.text)
  own-leads =
      let root = get_or roots f.root [] in
      subst (λ all. uris.path_of (root_at files) all (uris.file_uri root f.path) ≡ Some f.path) parts
      (law (root_at files) (take f.root roots) (drop (suc f.root) roots) root f.path h.written h.text h.good (λ url is. sym (ap (option_and_then (uris.place_in_roots 0 (take f.root roots))) is) ∙ h.first) not_earlier)

pub written-roots : FileUrisOfSeveralRoots → UrisOfWrittenRoots
written-roots law config all path f found =
    let files = from_disk (in_root_order config) in
    let on = begun-on_disk (HasOwnUri config.roots) (in_root_order config) (all-ordered (HasOwnUri config.roots) config.files all (range_with_len 0 (length config.roots))) path f found in
    subst (LeadsBack config.roots files path) on.is
    (subst (λ p. LeadsBack config.roots files p (disk_file on.found.root on.found.text)) on.at
    (own-leads law config.roots files on.found on.has (ap (λ p. file_at p files) on.at ∙ found ∙ ap (λ (g : File). Some g) (sym on.is))))

-- ---- renames

pub session-renames : UrisStayApart → RenamesEditUnderUris → RenamesOfASession
session-renames stay edit config bodies at new_name documents lead utf8 given =
    edit (context_of (session config bodies).state) at new_name documents utf8 (stay config bodies lead).differ given
