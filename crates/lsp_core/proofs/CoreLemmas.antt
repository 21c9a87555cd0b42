-- A core against the session of the messages that it was given.
use Rattle.std.proofs.Common.{◌≡◌, ℕ, zero, suc, ◌+◌, ◌-◌, ◌<◌, ◌≤◌, List, [], ◌∷◌, ◌++◌, Bool, true, false, map, length, fold, take, drop, get_or, refl, sym, ap, ap₂, subst, ◌∙◌, arith, append_assoc, append-nil, length-drop, length-append, replicate, Option, Some, None, Result, Ok, Err, ⊎_elim, inl, inr}
use Rattle.std.proofs.lemmas.List.{append_cancel_left, take_all, take-append-le, drop-append-le, length-map, map-append}
use Rattle.std.proofs.lemmas.List.Sums.{fold-append}
use Rattle.std.specs.Option.{option_to_list}
use Rattle.serde_json.specs.Written.{compact_text}
use Rattle.std.specs.Prelude.{option_map, option_and_then, if◌then◌else◌, string_bytes, IfOk, OnOk}
use Rattle.collector_laws.specs.WorkLaws.{NoneIsOut, NoJobChangesNothing, OnlyJobsMakePathsOut, CompleteIsNoneWantedAndNoneOut, RoundsLeaveNoneOut, RoundsEnd, right_piece, after_round, after_rounds}
use Rattle.piece_collector.specs.Board.{IsComplete, IsFirstWanted, current_text}
use Rattle.piece_collector.specs.History.{Standing, wants, sets, first_wanted, history, stands_at}
use Rattle.piece_collector.specs.Laws.{JobsGoToTheFirstWanted}
use Rattle.piece_collector.specs.Views.{TextAt}
use Rattle.piece_collector.specs.Board as board
use Rattle.piece_collector.specs.Events as work
use Rattle.serde_json.specs.Data.{Data}
use Rattle.lsp_rpc.specs.ClientCapabilities.{client_view}
use Rattle.lsp_rpc.specs.Message.{MessageData, notification, message_of}
use Rattle.lsp_rpc.specs.Params.{opened_of, changed_of}
use Rattle.lsp_rpc.specs.declared.method.Method.{Method}
use Rattle.lsp_rpc.specs.declared.method.Method.TheVariants.{DidOpen, DidChange, DidClose}
use Rattle.work_index.specs.declared.done.Done.{Done}
use Rattle.work_index.specs.declared.done.Done.TheVariants as job
use Rattle.work_files.specs.Files.{Files, text_at, workspace}
use Rattle.work_space.specs.View.{WorkspaceData}
use Rattle.work_files.specs.Texts.{is_open}
use Rattle.work_space.specs.BoardTexts.{text_event, event_at, events_at}
use Rattle.work_config.specs.Configuration.{Configuration, files_of}
use Rattle.work_dispatch.specs.Dispatch as dispatch
use Rattle.work_pool.specs.declared.sent_jobs.SentJob.{SentJob}
use Rattle.lsp_core.specs.Core.{Event, Arrive, Advance, Give, Offer, Fail, messages, processed, has_begun, begun, done, waiting, next_body, state_after, beginning, pending_after, board_events, MayBegin, MayFinish, MayStep, IsLegal, IsSettled, CoreState, IsAfter, ComesToAnAnalysis, Replied, Steps, Advances}
use Rattle.lsp_core.specs.Run.{event_of, right_work, with_round, with_rounds, IsWorked}
use Rattle.lsp_core.specs.Session.{State, Pending, start, turn, path_of, path_in, replies_of, replies_to, waits, needs_analysis, next, session}
use Rattle.lsp_core.specs.Steps.{CanStep, NeedsAnalysis, unprocessed, HasWorked, Knows, Awaits, WorksOn, Progresses, replies_after}
use Rattle.lsp_core.specs.View.{roots_of, state_of}
use Rattle.lsp_core.specs.BoardEvents.{events_for_path, events_by_method, events_in_phase, events_of, board_events_of}
use Rattle.lsp_core.specs.declared.phase.Phase.{Phase}
use Rattle.lsp_core.specs.declared.phase.Phase.TheVariants.{Running}
use Rattle.lsp_core.specs.declared.session.Session.{Session}
use Rattle.lsp_core.specs.declared.step.Step.{Step}
use Rattle.lsp_core.specs.declared.step.Step.TheVariants.{Begin, Finish}

-- ---- what a clause says only of a good result

pub on_ok : {A E P Q R : Type 0} (r : Result A E) → OnOk r P → OnOk r Q → (P → Q → R) → OnOk r R
on_ok (Ok x) p q f = f p q
on_ok (Err e) p q f = tt

pub if_ok : {A E : Type 0} {P Q : A → Type 0} (r : Result A E) → IfOk r P → ((x : A) → P x → Q x) → IfOk r Q
if_ok (Ok x) p f = f x p
if_ok (Err e) p f = tt

-- ---- the session, message by message

pub session-none : (config : Configuration) → session config [] ≡ record { state = start config; replies = [] }
unfolding session
session-none config = refl

pub session-append : (config : Configuration) (xs ys : List (List ℕ)) → session config (xs ++ ys) ≡ fold next (session config xs) ys
unfolding session
session-append config xs ys = fold-append next _ xs ys

pub session-snoc : (config : Configuration) (bodies : List (List ℕ)) (body : List ℕ) → session config (bodies ++ body ∷ []) ≡ next (session config bodies) body
session-snoc config bodies body = session-append config bodies (body ∷ [])

-- ---- lists of messages

-- what is behind the messages that are processed
split : (bodies : List (List ℕ)) (n : ℕ) → n < length bodies → drop n bodies ≡ get_or bodies n [] ∷ drop (suc n) bodies
split [] n there = absurd (omega (arith, there))
split (body ∷ bodies) zero there = refl
split (body ∷ bodies) (suc n) there = split bodies n (omega (arith, there))

take-more : (bodies : List (List ℕ)) (n : ℕ) → n < length bodies → take (suc n) bodies ≡ take n bodies ++ get_or bodies n [] ∷ []
take-more [] n there = absurd (omega (arith, there))
take-more (body ∷ bodies) zero there = refl
take-more (body ∷ bodies) (suc n) there = ap (λ l. body ∷ l) (take-more bodies n (omega (arith, there)))

get-arrived : (bodies : List (List ℕ)) (n : ℕ) (body : List ℕ) → n < length bodies → get_or (bodies ++ body ∷ []) n [] ≡ get_or bodies n []
get-arrived [] n body there = absurd (omega (arith, there))
get-arrived (first ∷ bodies) zero body there = refl
get-arrived (first ∷ bodies) (suc n) body there = get-arrived bodies n body (omega (arith, there))

-- ---- how many have begun

pub begun-idle : (h : List Event) → has_begun h ≡ false → begun h ≡ processed h
begun-idle h idle = rw idle refl

pub begun-more : (h : List Event) → has_begun h ≡ true → begun h ≡ suc (processed h)
begun-more h more = rw more refl

module _ (o : ℕ) (config : Configuration) where
  -- all that have begun are there
  pub known : (h : List Event) → IsLegal o config h → begun h ≤ length (messages h)
  known [] legal = omega arith
  known (Arrive body ∷ h) legal = let before = known h legal in omega (arith, before, length-append (messages h) (body ∷ []))
  known (Advance Begin ∷ h) legal = let may = legal.0 in omega (arith, may.there)
  known (Advance Finish ∷ h) legal = let may = legal.0 in let before = known h legal.1 in omega (arith, before, begun-more h may.begun)
  known (Give ∷ h) legal = known h legal
  known (Offer path stamp text ∷ h) legal = known h legal
  known (Fail path stamp ∷ h) legal = known h legal

  pub there-begun : (h : List Event) → IsLegal o config h → has_begun h ≡ true → processed h < length (messages h)
  there-begun h legal more = let all = known h legal in omega (arith, all, begun-more h more)

  processed-at-most : (h : List Event) (b : Bool) → IsLegal o config h → has_begun h ≡ b → processed h ≤ length (messages h)
  processed-at-most h true legal is = let there = there-begun h legal is in omega (arith, there)
  processed-at-most h false legal is = let all = known h legal in omega (arith, all, begun-idle h is)

  pub processed-known : (h : List Event) → IsLegal o config h → processed h ≤ length (messages h)
  processed-known h legal = processed-at-most h (has_begun h) legal refl

-- ---- the states of the session

-- the bodies of the messages that are processed, with one more
pub session-more : (config : Configuration) (h : List Event) → processed h < length (messages h) → session config (take (suc (processed h)) (messages h)) ≡ next (session config (done h)) (next_body h)
session-more config h there = ap (session config) (take-more (messages h) (processed h) there) ∙ session-snoc config (done h) (next_body h)

pub state-idle : (config : Configuration) (h : List Event) → has_begun h ≡ false → state_after config h ≡ (session config (done h)).state
state-idle config h idle = ap (λ n. (session config (take n (messages h))).state) (begun-idle h idle)

pub state-begun : (o : ℕ) (config : Configuration) (h : List Event) → IsLegal o config h → has_begun h ≡ true → state_after config h ≡ (beginning config h).state
state-begun o config h legal more = ap (λ n. (session config (take n (messages h))).state) (begun-more h more) ∙ ap (λ r. r.state) (session-more config h (there-begun o config h legal more))

-- the state that the beginning of a message leaves
pub state-begins : (config : Configuration) (h : List Event) → processed h < length (messages h) → state_after config (Advance Begin ∷ h) ≡ (beginning config h).state
state-begins config h there = ap (λ r. r.state) (session-more config h there)

module _ (o : ℕ) (config : Configuration) where
  -- ---- a message arrives

  beginning-arrived : (h : List Event) (body : List ℕ) → processed h < length (messages h) → beginning config (Arrive body ∷ h) ≡ beginning config h
  beginning-arrived h body there =
      ap₂ (λ bodies first. turn (session config bodies).state (message_of first)) (take-append-le (processed h) (messages h) (body ∷ []) (omega (arith, there))) (get-arrived (messages h) (processed h) body there)

  pending-arrived : (h : List Event) (body : List ℕ) (b : Bool) → IsLegal o config h → has_begun h ≡ b → pending_after config h ≡ pending_after config (Arrive body ∷ h)
  pending-arrived h body true legal is = let same = beginning-arrived h body (there-begun o config h legal is) in rw is (ap (λ t. Some t.pending) (sym same))
  pending-arrived h body false legal is = rw is refl

  pub state-arrived : (h : List Event) (body : List ℕ) → IsLegal o config h → state_after config (Arrive body ∷ h) ≡ state_after config h
  state-arrived h body legal = ap (λ bodies. (session config bodies).state) (take-append-le (begun h) (messages h) (body ∷ []) (known o config h legal))

  waiting-arrived : (h : List Event) (body : List ℕ) → IsLegal o config h → map message_of (waiting (Arrive body ∷ h)) ≡ map message_of (waiting h) ++ message_of body ∷ []
  waiting-arrived h body legal = ap (map message_of) (drop-append-le (begun h) (messages h) (body ∷ []) (known o config h legal)) ∙ map-append message_of (waiting h) (body ∷ [])

  pub arrived : (old new : CoreState) (h : List Event) (body : List ℕ) → IsAfter o config old h → new.state ≡ old.state → new.queue ≡ old.queue ++ message_of body ∷ [] → new.pending ≡ old.pending → new.board ≡ old.board
      → IsAfter o config new (Arrive body ∷ h)
  arrived old new h body after state queue pending same = record {
    legal = after.legal;
    state = state ∙ after.state ∙ sym (state-arrived h body after.legal);
    queue = queue ∙ ap (λ q. q ++ message_of body ∷ []) after.queue ∙ sym (waiting-arrived h body after.legal);
    pending = pending ∙ after.pending ∙ pending-arrived h body (has_begun h) after.legal refl;
    board = subst (λ b. board.IsAfter o b (board_events config h)) (sym same) after.board;
  }

  -- ---- the first message begins

  pub first-is : (old : CoreState) (h : List Event) (m : MessageData) (ms : List MessageData) → IsAfter o config old h → MayBegin h → old.queue ≡ m ∷ ms → m ∷ ms ≡ message_of (next_body h) ∷ map message_of (drop (suc (processed h)) (messages h))
  first-is old h m ms after may some =
      sym some ∙ after.queue ∙ ap (λ n. map message_of (drop n (messages h))) (begun-idle h may.idle) ∙ ap (map message_of) (split (messages h) (processed h) may.there)

  pub begins : (old new : CoreState) (h : List Event) (m : MessageData) (ms : List MessageData) → IsAfter o config old h → MayBegin h → old.queue ≡ m ∷ ms → new.queue ≡ ms → new.state ≡ (turn old.state m).state → new.pending ≡ Some (turn old.state m).pending
      → ((events : List work.Event) → board.IsAfter o old.board events → board.IsAfter o new.board (board_events_of old.state m ++ events)) → IsAfter o config new (Advance Begin ∷ h)
  begins old new h m ms after may some queue state pending told_board =
      let both = first-is old h m ms after may some in
      let first : m ≡ message_of (next_body h) = cc in
      let others : ms ≡ map message_of (drop (suc (processed h)) (messages h)) = cc in
      let before : old.state ≡ (session config (done h)).state = after.state ∙ state-idle config h may.idle in
      let same : turn old.state m ≡ beginning config h = ap₂ turn before first in
      let events : board_events_of old.state m ≡ board_events_of (session config (done h)).state (message_of (next_body h)) = ap₂ board_events_of before first in
      record {
        legal = (may, after.legal);
        state = state ∙ ap (λ t. t.state) same ∙ sym (state-begins config h may.there);
        queue = queue ∙ others;
        pending = pending ∙ ap (λ t. Some t.pending) same;
        board = subst (λ es. board.IsAfter o new.board (es ++ board_events config h)) events (told_board (board_events config h) after.board);
      }

  -- ---- it finishes

  pub finishes : (old new : CoreState) (h : List Event) → IsAfter o config old h → MayFinish o config h → new ≡ record old { pending = None } → IsAfter o config new (Advance Finish ∷ h)
  finishes old new h after may is = record {
    legal = (may, after.legal);
    state = ap (λ c. c.state) is ∙ after.state ∙ ap (λ n. (session config (take n (messages h))).state) (begun-more h may.begun);
    queue = ap (λ c. c.queue) is ∙ after.queue ∙ ap (λ n. map message_of (drop n (messages h))) (begun-more h may.begun);
    pending = ap (λ c. c.pending) is;
    board = subst (λ b. board.IsAfter o b (board_events config h)) (sym (ap (λ c. c.board) is)) after.board;
  }

  some-is : (p q : Pending) → Some p ≡ Some q → p ≡ q
  some-is p q e = cc

  pub pending-is : (core : CoreState) (h : List Event) (p : Pending) → IsAfter o config core h → has_begun h ≡ true → core.pending ≡ Some p → p ≡ (beginning config h).pending
  pending-is core h p after more some = some-is _ _ (sym some ∙ after.pending ∙ rw more refl)

  pub replied-finish : (core : CoreState) (h : List Event) (p : Pending) (first old new : List (List ℕ)) → IsAfter o config core h → MayFinish o config h → core.pending ≡ Some p → new ≡ old ++ map compact_text (replies_of core.state p)
      → Replied config h first old → Replied config (Advance Finish ∷ h) first new
  replied-finish core h p first old new after may some is replied =
      let left = pending-is core h p after may.begun some in
      let said : map compact_text (replies_of core.state p) ≡ map compact_text (replies_to (session config (done h)).state (message_of (next_body h))) =
      ap₂ (λ s q. map compact_text (replies_of s q)) (after.state ∙ state-begun o config h after.legal may.begun) left in
      ap (λ r. r.replies) (session-more config h (there-begun o config h after.legal may.begun))
      ∙ ap₂ (λ a b. a ++ b) replied (sym said) ∙ append_assoc first old _ ∙ ap (λ l. first ++ l) (sym is)

  -- ---- which step may come

  idle-by : (core : CoreState) (h : List Event) (b : Bool) → IsAfter o config core h → core.pending ≡ None → has_begun h ≡ b → has_begun h ≡ false
  idle-by core h true after none is = let no : None ≡ Some (beginning config h).pending = sym none ∙ after.pending ∙ rw is refl in cc
  idle-by core h false after none is = is

  pub is-idle : (core : CoreState) (h : List Event) → IsAfter o config core h → core.pending ≡ None → has_begun h ≡ false
  is-idle core h after none = idle-by core h (has_begun h) after none refl

  begun-by : (core : CoreState) (h : List Event) (p : Pending) (b : Bool) → IsAfter o config core h → core.pending ≡ Some p → has_begun h ≡ b → has_begun h ≡ true
  begun-by core h p true after some is = is
  begun-by core h p false after some is = let no : None ≡ Some p = sym (after.pending ∙ rw is refl) ∙ some in cc

  pub is-begun : (core : CoreState) (h : List Event) (p : Pending) → IsAfter o config core h → core.pending ≡ Some p → has_begun h ≡ true
  is-begun core h p after some = begun-by core h p (has_begun h) after some refl

  queued-is : (core : CoreState) (h : List Event) → IsAfter o config core h → length core.queue ≡ length (messages h) - begun h
  queued-is core h after = ap length after.queue ∙ length-map (waiting h) message_of ∙ length-drop (begun h) (messages h)

  -- no message is left where none has begun and none is queued
  pub settled-none : (core : CoreState) (h : List Event) → IsAfter o config core h → core.pending ≡ None → length core.queue ≡ 0 → IsSettled o config h
  settled-none core h after none empty =
      let queued = queued-is core h after in
      let all = known o config h after.legal in
      inl (omega (arith, queued, empty, all, begun-idle h (is-idle core h after none)))

  -- one is held up where it waits for a board that isn't complete
  pub settled-held : (core : CoreState) (h : List Event) (p : Pending) → IsAfter o config core h → core.pending ≡ Some p → waits p ≡ true → ¬ IsComplete o (board_events config h) → IsSettled o config h
  settled-held core h p after some wait incomplete =
      let more = is-begun core h p after some in
      inr (record { begun = more; waits = sym (ap waits (pending-is core h p after more some)) ∙ wait; incomplete = incomplete })

  pub may-begin : (core : CoreState) (h : List Event) → IsAfter o config core h → core.pending ≡ None → 0 < length core.queue → MayBegin h
  may-begin core h after none some =
      let queued = queued-is core h after in
      let idle = is-idle core h after none in
      record { idle = idle; there = omega (arith, queued, some, begun-idle h idle) }

  pub may-finish : (core : CoreState) (h : List Event) (p : Pending) → IsAfter o config core h → core.pending ≡ Some p → (waits p ≡ true → IsComplete o (board_events config h)) → MayFinish o config h
  may-finish core h p after some ready =
      let more = is-begun core h p after some in
      record { begun = more; ready = λ wait. ready (ap waits (pending-is core h p after more some) ∙ wait) }

  -- how many messages aren't processed
  unprocessed-by : (core : CoreState) (h : List Event) (p : Option Pending) → IsAfter o config core h → core.pending ≡ p → unprocessed core ≡ length (messages h) - processed h
  unprocessed-by core h None after is =
      let queued = queued-is core h after in
      let idle = begun-idle h (is-idle core h after is) in
      rw is (omega (arith, queued, idle))
  unprocessed-by core h (Some p) after is =
      let queued = queued-is core h after in
      let more = is-begun core h p after is in
      let there = there-begun o config h after.legal more in
      rw is (omega (arith, queued, begun-more h more, there))

  pub unprocessed-is : (core : CoreState) (h : List Event) → IsAfter o config core h → unprocessed core ≡ length (messages h) - processed h
  unprocessed-is core h after = unprocessed-by core h core.pending after refl

  -- ---- steps

  pub steps-none : (core : CoreState) (h : List Event) → IsAfter o config core h → Steps o config core h []
  steps-none core h after = record { steps = []; is_after = after; replied = sym (append-nil (session config (done h)).replies) }

-- ---- histories

pub messages-steps : (steps : List Step) (h : List Event) → messages (map Advance steps ++ h) ≡ messages h
messages-steps [] h = refl
messages-steps (step ∷ steps) h = messages-steps steps h

pub processed-steps : (steps : List Step) (h : List Event) → processed h ≤ processed (map Advance steps ++ h)
processed-steps [] h = omega arith
processed-steps (Begin ∷ steps) h = processed-steps steps h
processed-steps (Finish ∷ steps) h = let behind = processed-steps steps h in omega (arith, behind)

-- without a message that finishes no step may come behind one that has begun
pub no-steps : (o : ℕ) (config : Configuration) (steps : List Step) (h : List Event) → IsLegal o config (map Advance steps ++ h) → has_begun h ≡ true → processed (map Advance steps ++ h) ≡ processed h → steps ≡ []
no-steps o config [] h legal more same = refl
no-steps o config (Begin ∷ steps) h legal more same =
    let may = legal.0 in
    let none = no-steps o config steps h legal.1 more same in
    let idle : has_begun h ≡ false = subst (λ before. has_begun (map Advance before ++ h) ≡ false) none may.idle in
    let no : true ≡ false = sym more ∙ idle in
    absurd (cc (no))
no-steps o config (Finish ∷ steps) h legal more same = let behind = processed-steps steps h in absurd (omega (arith, behind, same))

-- nothing waits where all messages are processed
pub done-all : (h : List Event) → processed h ≡ length (messages h) → done h ≡ messages h
done-all h all = take_all (processed h) (messages h) (omega (arith, all))

-- ---- no path is out before the first message

none-out-set : (o : ℕ) → OnlyJobsMakePathsOut → (files : List (List ℕ × List ℕ)) (events : List work.Event) → NoneIsOut o events → NoneIsOut o (fold (λ es file. work.SetText file.0 file.1 ∷ es) events files)
none-out-set o only [] events none = none
none-out-set o only (file ∷ files) events none = none-out-set o only files (work.SetText file.0 file.1 ∷ events) (λ p out. none p (only o (work.SetText file.0 file.1) events (λ e. cc) p out))

pub none-out-first : (o : ℕ) (config : Configuration) → OnlyJobsMakePathsOut → NoneIsOut o (board_events config [])
none-out-first o config only = none-out-set o only (workspace (files_of config)) [] (λ p out. out)

-- ---- what a message does to the board makes no path out

told-event : (o : ℕ) → OnlyJobsMakePathsOut → (path : List ℕ) (text : Option (List ℕ)) (events : List work.Event) → NoneIsOut o events → NoneIsOut o (text_event path text ∷ events)
told-event o only path None events none p out = none p (only o (work.Remove path) events (λ e. cc) p out)
told-event o only path (Some text) events none p out = none p (only o (work.SetText path text) events (λ e. cc) p out)

module _ (o : ℕ) (only : OnlyJobsMakePathsOut) (events : List work.Event) (none : NoneIsOut o events) where
  told-open : (files : Files) (path : Option (List ℕ)) → NoneIsOut o (events_for_path (λ p. event_at p files ∷ []) path ++ events)
  told-open files None = none
  told-open files (Some path) = told-event o only path (text_at path files) events none

  told-where : (path : List ℕ) (files : Files) (b : Bool) → NoneIsOut o ((if b then event_at path files ∷ [] else []) ++ events)
  told-where path files true = told-event o only path (text_at path files) events none
  told-where path files false = none

  told-opened : (old files : Files) (path : Option (List ℕ)) → NoneIsOut o (events_for_path (λ p. events_at p old files) path ++ events)
  told-opened old files None = none
  told-opened old files (Some path) = told-where path files (is_open path old)

  told-by : (s : State) (method : Option Method) (params : Data) (files : Files) → NoneIsOut o (events_by_method s method params files ++ events)
  told-by s (Some DidOpen) params files = told-open files (option_and_then (λ d. path_of s d.uri) (opened_of params))
  told-by s (Some DidChange) params files = told-opened s.files files (option_and_then (λ c. path_of s c.document.uri) (changed_of params))
  told-by s (Some DidClose) params files = told-opened s.files files (path_in s params)
  told-by s _ params files = none

  told-in : (phase : Phase) (s : State) (method : Option Method) (params : Data) (files : Files) → NoneIsOut o (events_in_phase phase s method params files ++ events)
  told-in Running s method params files = told-by s method params files
  told-in _ s method params files = none

  told-none : (s : State) (m : MessageData) (files : Files) → NoneIsOut o (events_of s m files ++ events)
  told-none s (notification method params) files = told-in s.phase s method params files
  told-none s _ files = none

pub none-out-steps : (o : ℕ) (config : Configuration) → OnlyJobsMakePathsOut → (steps : List Step) (h : List Event) → NoneIsOut o (board_events config h) → NoneIsOut o (board_events config (map Advance steps ++ h))
none-out-steps o config only [] h none = none
none-out-steps o config only (Begin ∷ steps) h none =
    let before = map Advance steps ++ h in
    let s = (session config (done before)).state in
    let m = message_of (next_body before) in
    told-none o only (board_events config before) (none-out-steps o config only steps h none) s m (turn s m).state.files
none-out-steps o config only (Finish ∷ steps) h none = none-out-steps o config only steps h none

-- ---- rounds of work

module _ (o : ℕ) (config : Configuration) where
  board-round : (h : List Event) → board_events config (with_round o config h) ≡ after_round o (board_events config h)
  board-round h = by (first_wanted o (history o (board_events config h)))
    where
      given : (p : List ℕ) (x : Option Standing) → board_events config (option_to_list (option_map (λ (y : Standing). Offer p y.stamp y.text) x) ++ Give ∷ h) ≡ option_to_list (option_map (λ (y : Standing). work.Offer p y.stamp y.text) x) ++ work.NextJob ∷ board_events config h
      given p None = refl
      given p (Some x) = refl

      by : (g : Option (List ℕ)) → board_events config (option_to_list (option_and_then (right_work o config h) g) ++ Give ∷ h) ≡ option_to_list (option_and_then (right_piece o (board_events config h)) g) ++ work.NextJob ∷ board_events config h
      by None = refl
      by (Some p) = given p (stands_at o (board_events config h) p)

  pub board-rounds : (n : ℕ) (h : List Event) → board_events config (with_rounds n o config h) ≡ after_rounds n o (board_events config h)
  board-rounds zero h = refl
  board-rounds (suc n) h = board-rounds n (with_round o config h) ∙ ap (after_rounds n o) (board-round h)

  -- the last round comes behind the others
  pub rounds-more : (n : ℕ) (h : List Event) → with_rounds (suc n) o config h ≡ with_round o config (with_rounds n o config h)
  rounds-more zero h = refl
  rounds-more (suc n) h = rounds-more n (with_round o config h)

  same-round : {X : Type 0} (f : List Event → X) → ((h : List Event) → f (Give ∷ h) ≡ f h) → ((p : List ℕ) (s : ℕ) (t : List ℕ) (h : List Event) → f (Offer p s t ∷ h) ≡ f h) → (h : List Event) → f (with_round o config h) ≡ f h
  same-round f give offer h = by (option_and_then (right_work o config h) (first_wanted o (history o (board_events config h)))) refl
    where
      given : (p : List ℕ) (e : Event) (x : Option Standing) → option_map (λ (y : Standing). Offer p y.stamp y.text) x ≡ Some e → f (e ∷ Give ∷ h) ≡ f h
      given p e None is = cc
      given p e (Some x) is = let same : Offer p x.stamp x.text ≡ e = cc in ap (λ d. f (d ∷ Give ∷ h)) (sym same) ∙ offer p x.stamp x.text (Give ∷ h) ∙ give h

      offered : (e : Event) (g : Option (List ℕ)) → option_and_then (right_work o config h) g ≡ Some e → f (e ∷ Give ∷ h) ≡ f h
      offered e None is = cc
      offered e (Some p) is = given p e (stands_at o (board_events config h) p) is

      by : (e : Option Event) → option_and_then (right_work o config h) (first_wanted o (history o (board_events config h))) ≡ e → f (option_to_list e ++ Give ∷ h) ≡ f h
      by None is = give h
      by (Some e) is = offered e (first_wanted o (history o (board_events config h))) is

  pub same-rounds : {X : Type 0} (f : List Event → X) → ((h : List Event) → f (Give ∷ h) ≡ f h) → ((p : List ℕ) (s : ℕ) (t : List ℕ) (h : List Event) → f (Offer p s t ∷ h) ≡ f h) → (n : ℕ) (h : List Event) → f (with_rounds n o config h) ≡ f h
  same-rounds f give offer zero h = refl
  same-rounds f give offer (suc n) h = same-rounds f give offer n (with_round o config h) ∙ same-round f give offer h

  pub messages-rounds : (n : ℕ) (h : List Event) → messages (with_rounds n o config h) ≡ messages h
  messages-rounds = same-rounds messages (λ h. refl) (λ p s t h. refl)

  pub begun-rounds : (n : ℕ) (h : List Event) → has_begun (with_rounds n o config h) ≡ has_begun h
  begun-rounds = same-rounds has_begun (λ h. refl) (λ p s t h. refl)

  pub processed-rounds : (n : ℕ) (h : List Event) → processed (with_rounds n o config h) ≡ processed h
  processed-rounds = same-rounds processed (λ h. refl) (λ p s t h. refl)

  -- a round where a job was given, and where none was
  pub round-none : JobsGoToTheFirstWanted → (h : List Event) → IsFirstWanted o (board_events config h) None → with_round o config h ≡ Give ∷ h
  round-none law h first = ap (λ g. option_to_list (option_and_then (right_work o config h) g) ++ Give ∷ h) ((law o (board_events config h) None).0 first)

  pub round-some : JobsGoToTheFirstWanted → (h : List Event) (j : TextAt) → IsFirstWanted o (board_events config h) (Some j.path) → option_map (current_text j.path) (stands_at o (board_events config h) j.path) ≡ Some j
      → with_round o config h ≡ Offer j.path j.stamp j.text ∷ Give ∷ h
  round-some law h j first text =
      ap (λ g. option_to_list (option_and_then (right_work o config h) g) ++ Give ∷ h) ((law o (board_events config h) (Some j.path)).0 first) ∙ by (stands_at o (board_events config h) j.path) text
    where
      by : (x : Option Standing) → option_map (current_text j.path) x ≡ Some j → option_to_list (option_map (λ (y : Standing). Offer j.path y.stamp y.text) x) ++ Give ∷ h ≡ Offer j.path j.stamp j.text ∷ Give ∷ h
      by None is = cc
      by (Some x) is = let same : current_text j.path x ≡ j = cc in ap (λ (y : TextAt). Offer j.path y.stamp y.text ∷ Give ∷ h) same

  -- so many rounds, of which the last one found no job
  pub worked-none : JobsGoToTheFirstWanted → NoJobChangesNothing → (core : CoreState) (n : ℕ) (h : List Event) → IsFirstWanted o (board_events config (with_rounds n o config h)) None → IsAfter o config core (with_round o config (with_rounds n o config h))
      → HasWorked o config core h
  worked-none law same core n h first after =
      let before = with_rounds n o config h in
      let events = board_events config before in
      let last : board_events config (with_round o config before) ≡ work.NextJob ∷ events = ap (board_events config) (round-none law before first) in
      record {
        after = with_round o config before;
        worked = record {
          rounds = suc n;
          is = sym (rounds-more n h);
          finished = subst (λ es. IsFirstWanted o es None) (sym last) (λ q. ap wants (same o events first q) ∙ first q);
        };
        is_after = after;
      }

  -- as many rounds as there are stamps, or more
  pub worked-all : RoundsEnd → (old core : CoreState) (n : ℕ) (h : List Event) → IsAfter o config old h → old.board.last ≤ n → IsAfter o config core (with_rounds n o config h) → HasWorked o config core h
  worked-all law old core n h before count after =
      let enough : sets (history o (board_events config h)) ≤ n = omega (arith, before.board.last, count) in
      record {
        after = with_rounds n o config h;
        worked = record { rounds = n; is = refl; finished = subst (λ es. IsFirstWanted o es None) (sym (board-rounds n h)) (law n o (board_events config h) enough) };
        is_after = after;
      }

  pub worked-complete : CompleteIsNoneWantedAndNoneOut → RoundsLeaveNoneOut → (h after : List Event) → IsWorked o config h after → NoneIsOut o (board_events config h) → NoneIsOut o (board_events config after) × IsComplete o (board_events config after)
  worked-complete complete rounds h after worked none =
      let same : board_events config after ≡ after_rounds worked.rounds o (board_events config h) = ap (board_events config) worked.is ∙ board-rounds worked.rounds h in
      let still : NoneIsOut o (board_events config after) = subst (λ es. NoneIsOut o es) (sym same) (rounds worked.rounds o (board_events config h) none) in
      (still, (complete o (board_events config after)).1 (worked.finished, still))

-- ---- messages of a stream

pub knows-none : (config : Configuration) (core : CoreState) → IsAfter 0 config core [] → Knows config core []
knows-none config core after = record { history = []; is_after = after; came = refl; idle = refl }

-- none has begun where all are processed
none-begun-by : (o : ℕ) (config : Configuration) (h : List Event) (b : Bool) → IsLegal o config h → processed h ≡ length (messages h) → has_begun h ≡ b → has_begun h ≡ false
none-begun-by o config h true legal all is = let there = there-begun o config h legal is in absurd (omega (arith, there, all))
none-begun-by o config h false legal all is = is

pub none-begun : (o : ℕ) (config : Configuration) (h : List Event) → IsLegal o config h → processed h ≡ length (messages h) → has_begun h ≡ false
none-begun o config h legal all = none-begun-by o config h (has_begun h) legal all refl

pub knows-state : (config : Configuration) (core : CoreState) (bodies : List (List ℕ)) → Knows config core bodies → core.state ≡ (session config bodies).state
knows-state config core bodies k =
    let h = k.history in
    k.is_after.state ∙ state-idle config h (none-begun 0 config h k.is_after.legal k.idle) ∙ ap (λ b. (session config b).state) (done-all h k.idle ∙ k.came)

-- ---- work that comes behind a history

same-gives : {X : Type 0} (f : List Event → X) → ((h : List Event) → f (Give ∷ h) ≡ f h) → (n : ℕ) (h : List Event) → f (replicate n Give ++ h) ≡ f h
same-gives f same zero h = refl
same-gives f same (suc n) h = same (replicate n Give ++ h) ∙ same-gives f same n h

-- a state of a session is that of its files, and of how they are read
pub same-state : (s : Session) (old new : WorkspaceData) → new.files ≡ old.files → new.reads_others ≡ old.reads_others → state_of s new ≡ state_of s old
same-state s old new same others =
    let fresh : Files → Bool → State = λ files reads_others. record { roots = roots_of s; client = client_view s.client; phase = s.phase; files = files; reads_others = reads_others } in
    ap₂ fresh same others

-- only the board has changed
module _ (o : ℕ) (config : Configuration) (old new : CoreState) (h : List Event) (state : new.state ≡ old.state) (queue : new.queue ≡ old.queue) (pending : new.pending ≡ old.pending) (after : IsAfter o config old h) where
  legal-gives : (n : ℕ) → IsLegal o config (replicate n Give ++ h)
  legal-gives zero = after.legal
  legal-gives (suc n) = legal-gives n

  board-gives : (n : ℕ) → replicate n work.NextJob ++ board_events config h ≡ board_events config (replicate n Give ++ h)
  board-gives zero = refl
  board-gives (suc n) = ap (λ es. work.NextJob ∷ es) (board-gives n)

  pub hands-out : (before sent : List SentJob) → dispatch.HandsOut old.board new.board before sent → WorksOn o config new h
  hands-out before sent hands =
      let n = hands.asked in
      record {
        after = replicate n Give ++ h;
        is_after = record {
          legal = legal-gives n;
          state = state ∙ after.state ∙ sym (same-gives (state_after config) (λ g. refl) n h);
          queue = queue ∙ after.queue ∙ sym (same-gives (λ g. map message_of (waiting g)) (λ g. refl) n h);
          pending = pending ∙ after.pending ∙ sym (same-gives (pending_after config) (λ g. refl) n h);
          board = subst (λ es. board.IsAfter o new.board es) (board-gives n) (hands.records o (board_events config h) after.board);
        };
        came = same-gives messages (λ g. refl) n h;
        count = same-gives processed (λ g. refl) n h;
      }

  brought : (done : Done) → board.IsAfter o new.board (dispatch.event_of done ∷ board_events config h) → WorksOn o config new h
  brought (job.Made piece) now = record {
    after = Offer piece.path piece.stamp piece.text ∷ h;
    is_after = record { legal = after.legal; state = state ∙ after.state; queue = queue ∙ after.queue; pending = pending ∙ after.pending; board = now };
    came = refl;
    count = refl;
  }
  brought (job.Failed path stamp) now = record {
    after = Fail (string_bytes path) stamp ∷ h;
    is_after = record { legal = after.legal; state = state ∙ after.state; queue = queue ∙ after.queue; pending = pending ∙ after.pending; board = now };
    came = refl;
    count = refl;
  }

  pub brings-result : (before sent : List SentJob) → dispatch.BringsResult old.board new.board before sent → WorksOn o config new h
  brings-result before sent brings = brought brings.done (brings.records o (board_events config h) after.board)

pub knows-on : (config : Configuration) (old new : CoreState) (bodies : List (List ℕ)) → Knows config old bodies → ((h : List Event) → IsAfter 0 config old h → WorksOn 0 config new h) → Knows config new bodies
knows-on config old new bodies k works =
    let w = works k.history k.is_after in
    record { history = w.after; is_after = w.is_after; came = w.came ∙ k.came; idle = w.count ∙ k.idle ∙ ap length (sym w.came) }

pub awaits-on : (config : Configuration) (old new : CoreState) (bodies : List (List ℕ)) (body : List ℕ) → Awaits config old bodies body → ((h : List Event) → IsAfter 0 config old h → WorksOn 0 config new h) → Awaits config new bodies body
awaits-on config old new bodies body a works =
    let w = works a.history a.is_after in
    record { history = w.after; is_after = w.is_after; came = w.came ∙ a.came; count = w.count ∙ a.count }

-- ---- one more message

pub awaits-message : (config : Configuration) (old new : CoreState) (bodies : List (List ℕ)) (body : List ℕ) → Knows config old bodies → ((h : List Event) → IsAfter 0 config old h → IsAfter 0 config new (Arrive body ∷ h)) → Awaits config new bodies body
awaits-message config old new bodies body k arrives = record {
  history = Arrive body ∷ k.history;
  is_after = arrives k.history k.is_after;
  came = ap (λ b. b ++ body ∷ []) k.came;
  count = k.idle ∙ ap length k.came;
}

-- the messages that are processed before it
done-before : (bodies : List (List ℕ)) (body : List ℕ) (h : List Event) → messages h ≡ bodies ++ body ∷ [] → processed h ≡ length bodies → done h ≡ bodies
done-before bodies body h came count = ap₂ take count came ∙ take-append-le (length bodies) bodies (body ∷ []) (omega arith) ∙ take_all (length bodies) bodies (omega arith)

-- its replies
replies-are : (config : Configuration) (bodies : List (List ℕ)) (body : List ℕ) (replies : List (List ℕ)) → (session config (bodies ++ body ∷ [])).replies ≡ (session config bodies).replies ++ replies → replies ≡ replies_after config bodies body
replies-are config bodies body replies replied =
    append_cancel_left (session config bodies).replies replies (replies_after config bodies body) (sym replied ∙ ap (λ r. r.replies) (session-snoc config bodies body))

-- an advance processed it, or it is held up
pub progresses : (config : Configuration) (old new : CoreState) (bodies : List (List ℕ)) (body : List ℕ) (replies : List (List ℕ)) → Awaits config old bodies body → ((h : List Event) → IsAfter 0 config old h → Advances 0 config new h replies)
    → Progresses config new bodies body replies
progresses config old new bodies body replies w advances =
    let h = w.history in
    let a = advances h w.is_after in
    let steps = a.taken.steps in
    let later = map Advance steps ++ h in
    let came : messages later ≡ bodies ++ body ∷ [] = messages-steps steps h ∙ w.came in
    let size : length (messages later) ≡ length bodies + 1 = ap length came ∙ length-append bodies (body ∷ []) in
    let first : done h ≡ bodies = done-before bodies body h w.came w.count in
    ⊎_elim
    (λ all.
    let whole : done later ≡ bodies ++ body ∷ [] = done-all later all ∙ came in
    inl (
      record { history = later; is_after = a.taken.is_after; came = came; idle = all },
      replies-are config bodies body replies (ap (λ b. (session config b).replies) (sym whole) ∙ a.taken.replied ∙ ap (λ b. (session config b).replies ++ replies) first),
    ))
    (λ held.
    let there = there-begun 0 config later a.taken.is_after.legal held.begun in
    inr (record { history = later; is_after = a.taken.is_after; came = came; count = omega (arith, there, size, processed-steps steps h, w.count) }))
    a.settled

module _ (config : Configuration) (core : CoreState) (bodies : List (List ℕ)) (body : List ℕ) (replies : List (List ℕ)) where
  -- it is processed where no message waits
  pub has-answered : Progresses config core bodies body replies → ((h : List Event) → IsAfter 0 config core h → ¬ (processed h < length (messages h))) → Knows config core (bodies ++ body ∷ []) × (replies ≡ replies_after config bodies body)
  has-answered (inl known) idle = known
  has-answered (inr w) idle =
      let size : length (messages w.history) ≡ length bodies + 1 = ap length w.came ∙ length-append bodies (body ∷ []) in
      absurd (idle w.history w.is_after (omega (arith, size, w.count)))

  -- and it isn't where one does
  pub still-awaits : Progresses config core bodies body replies → ((h : List Event) → IsAfter 0 config core h → processed h < length (messages h)) → Awaits config core bodies body
  still-awaits (inl known) there =
      let more = there known.0.history known.0.is_after in
      let all = known.0.idle in
      absurd (omega (arith, more, all))
  still-awaits (inr w) there = w

-- ---- what is left to be answered is that of a message of the history

pub comes_to_analysis : (o : ℕ) (config : Configuration) (core : CoreState) (h : List Event) (steps : List Step) (step : Step) → IsAfter o config core (map Advance steps ++ h) → CanStep core step → MayStep o config (map Advance steps ++ h) step → NeedsAnalysis core
    → ComesToAnAnalysis o config h
comes_to_analysis o config core h steps Begin after can may needs = let no : None ≡ Some needs.0 = sym can.0 ∙ needs.1 in cc
comes_to_analysis o config core h steps Finish after can may needs =
    let left = pending-is o config core (map Advance steps ++ h) needs.0 after may.begun needs.1 in
    record { steps = steps; legal = after.legal; ready = may; needs = ap needs_analysis (sym left) ∙ needs.2 }
