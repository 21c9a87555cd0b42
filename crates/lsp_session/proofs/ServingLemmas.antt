-- A session over a stream: what was read, what was written, and what is left.
use Rattle.std.proofs.Common.{◌≡◌, ℕ, zero, suc, ◌+◌, ◌<◌, ◌≤◌, true, false, Bool, List, [], ◌∷◌, ◌++◌, map, take, drop, get_or, length, fold, refl, sym, ap, ◌∙◌, arith, append_assoc, append-nil, length-append, Option, None, Some, option_map, Result, Ok, Err, take-append-drop, subst, inl, inr}
use Rattle.std.specs.Prelude.{IfSome, IfOk, IfErr, OnOk, OnErr, ◌⊎◌, ⊤, is_some}
use Rattle.std.specs.Option.{option_to_list}
use Rattle.std.specs.Io.KnownBytes.{Appends}
use Rattle.std.proofs.KnownBytes.{Appends-trans, Appends-nil}
use Rattle.std.proofs.Math.Seq.{take-append-add}
use Rattle.std.proofs.lemmas.Grind.{flat_map-append}
use Rattle.std.proofs.lemmas.List.{take_all, take_more, drop_more}
use Rattle.serde_json.specs.Written.{compact_text}
use Rattle.lsp_frame.specs.Fault.{code_of}
use Rattle.lsp_frame.specs.Stream.{StreamEnd, InputEnd, BadFrame, Whole, NoFrame, least_below, header_len, first_frame, frames, with_body, no_frames}
use Rattle.lsp_frame.specs.StreamLaws.{IsFrame}
use Rattle.lsp_frame.specs.Counts.{no_counts, NoneFell, NoError, HasFailed}
use Rattle.lsp_frame.specs.Reading.{TakesFrame, BreaksOff, RunsOut, Shows, ShowsEnd, HasCause, NoErrorUnlessRead}
use Rattle.lsp_frame.specs.declared.counts.Counts.{Counts}
use Rattle.lsp_frame.specs.declared.fault.FrameFault.{FrameFault}
use Rattle.lsp_frame.specs.declared.fault.FrameFault.TheVariants.{BadHeader, NoLength, BadLength, BodyTooLong, HeaderTooLong, Truncated, Read, Memory}
use Rattle.lsp_frame.specs.declared.reader.LastAnswer.{LastAnswer}
use Rattle.lsp_frame.specs.declared.reader.LastAnswer.TheVariants.{AtEnd, Failed}
use Rattle.lsp_frame.specs.Writing.{frame_of}
use Rattle.lsp_frame.proofs.CountsLemmas.{NoneFell-refl, NoneFell-trans, HasFailed-after}
use Rattle.lsp_frame.proofs.Splits.{begins_with}
use Rattle.lsp_frame.proofs.StreamLemmas.{frames-whole, frames-end}
use Rattle.lsp_rpc.specs.Message.{message_of}
use Rattle.work_files.specs.Files.{workspace}
use Rattle.work_space.specs.BoardTexts.{StampsRunOut}
use Rattle.work_config.specs.Configuration.{Configuration, files_of}
use Rattle.work_config.specs.Fault.{ComesWhileServing, IsOfCore, IsOfWorkers, IsWriteOrCore, serve_fault_of}
use Rattle.work_config.specs.Sending.{SendsPrefix}
use Rattle.work_config.proofs.SendingLemmas.{front-of, front-behind, nothing_sent}
use Rattle.work_config.specs.declared.fault.CoreFault.{CoreFault}
use Rattle.work_config.specs.declared.fault.CoreFault.TheVariants as core_fault
use Rattle.work_config.specs.declared.fault.ServeFault.{ServeFault}
use Rattle.work_config.specs.declared.fault.ServeFault.TheVariants as served
use Rattle.lsp_core.specs.Core.{Event, CoreState, IsAfter, ExhaustsStamps}
use Rattle.lsp_core.specs.Session.{State, Run, turn, turn_in, replies_of, replies_to, next, start, session}
use Rattle.lsp_session.specs.Serving.{Calls, IsCaused, Serves, Serving, Ends, Finishes, Fails, Served, Comes, exit_in, end_by}
use Rattle.lsp_core.specs.Steps.{Knows, WorksOn, replies_after}
use Rattle.lsp_core.specs.Session.{exit_of, is_exited}
use Rattle.lsp_session.specs.Stream.{IsExit, HasFrameCode, LeavesReader, Answered, frames_of, output, ended, ended_in, taken_from, behind_first, behind_frames, behind_exit}
use Rattle.lsp_session.specs.declared.ended.Ended.{Ended}
use Rattle.lsp_session.specs.declared.ended.Ended.TheVariants as how
use Rattle.lsp_core.specs.declared.phase.Phase.{Phase}
use Rattle.lsp_core.specs.declared.phase.Phase.TheVariants.{Uninitialized, Running, Shut, Exited}
use Rattle.lsp_core.proofs.FaultLemmas.{of_workers, not_of_workers}
use Rattle.lsp_core.proofs.StampLemmas.{files_alone}
use Rattle.lsp_core.proofs.CoreLemmas.{session-none, session-append, session-snoc, knows-state, knows-on}

-- the bodies of the stream are those that were taken, and those that are left
pub came : {config : Configuration} {bytes rest : List ℕ} {core : CoreState} {v w : Option (List ℕ)} → (s : Serves config bytes rest core v w) → (frames bytes).bodies ≡ s.bodies ++ (frames rest).bodies
came {config} {bytes} {rest} s = ap (λ l. (frames l).bodies) s.joined ∙ s.whatever rest

-- ---- at the start

some-same : (x y : List ℕ) → Some x ≡ Some y → x ≡ y
some-same x y e = cc

taken-start : (config : Configuration) (core : CoreState) (later : List (List ℕ)) → core.state ≡ start config → taken_from (start config) later ≡ 0 + taken_from core.state later
taken-start config core later e = rw e (omega arith)

pub serving-start : (config : Configuration) (a v : Option (List ℕ)) (core : CoreState) → Knows config core [] → Serving config a a core v v
serving-start config None v core k = tt
serving-start config (Some bytes) v core k =
    let state : core.state ≡ start config = knows-state config core [] k ∙ ap (λ r. r.state) (session-none config) in
    record {
      bodies = [];
      knows = k;
      front = [];
      joined = refl;
      whatever = λ behind. refl;
      same_end = refl;
      wrote = rw (ap (λ r. frames_of r.replies) (session-none config)) (Appends-nil v);
      behind = refl;
      taken = λ later. taken-start config core later state;
    }

-- ---- one more message

behind_frames-snoc : (n : ℕ) (bytes : List ℕ) → behind_frames (suc n) bytes ≡ behind_first (behind_frames n bytes) (first_frame (behind_frames n bytes))
behind_frames-snoc zero bytes = refl
behind_frames-snoc (suc n) bytes = behind_frames-snoc n (behind_first bytes (first_frame bytes))

taken-open : (s : State) (body : List ℕ) (later : List (List ℕ)) → is_exited s.phase ≡ false → taken_from s (body ∷ later) ≡ suc (taken_from (turn s (message_of body)).state later)
taken-open s body later open_still = rw open_still refl

pub serving-more : (config : Configuration) (a b c v w x : Option (List ℕ)) (old new : CoreState) (body : List ℕ) → Serving config a b old v w → is_exited old.state.phase ≡ false → IfSome b (λ rest. TakesFrame rest c body)
    → ((bodies : List (List ℕ)) → Knows config old bodies → Knows config new (bodies ++ body ∷ [])) → ((bodies : List (List ℕ)) → Knows config old bodies → Appends w x (frames_of (replies_after config bodies body)))
    → Serving config a c new v x
serving-more config None b c v w x old new body s open_still t knows wrote = tt
serving-more config (Some bytes) None c v w x old new body s open_still t knows wrote = absurd s
serving-more config (Some bytes) (Some rest) None v w x old new body s open_still t knows wrote = let no : None ≡ Some t.rest = t.is_left in cc
serving-more config (Some bytes) (Some rest) (Some left) v w x old new body s open_still t knows wrote =
    let bodies = s.bodies in
    let same : left ≡ t.rest = some-same left t.rest t.is_left in
    let split : frames rest ≡ with_body body (frames left) = t.others ∙ ap (λ r. with_body body (frames r)) (sym same) in
    let known = knows bodies s.knows in
    let first = session config bodies in
    let after : session config (bodies ++ body ∷ []) ≡ next first body = session-snoc config bodies body in
    let begin = begins_with rest body t.rest t.first in
    let size : length (bodies ++ body ∷ []) ≡ suc (length bodies) = omega (arith, length-append bodies (body ∷ [])) in
    let state : (turn old.state (message_of body)).state ≡ new.state = ap (λ u. (turn u (message_of body)).state) (knows-state config old bodies s.knows) ∙ sym (ap (λ r. r.state) after) ∙ sym (knows-state config new (bodies ++ body ∷ []) known) in
    record {
      bodies = bodies ++ body ∷ [];
      knows = known;
      front = s.front ++ begin.frame;
      joined = s.joined ∙ ap (λ l. s.front ++ l) (begin.joined ∙ ap (λ l. begin.frame ++ l) (sym same)) ∙ sym (append_assoc s.front begin.frame left);
      whatever = λ behind.
          ap (λ l. (frames l).bodies) (append_assoc s.front begin.frame behind) ∙ s.whatever (begin.frame ++ behind) ∙ ap (λ f. bodies ++ f.bodies) (frames-whole (begin.frame ++ behind) body behind (begin.whatever behind))
          ∙ sym (append_assoc bodies (body ∷ []) (frames behind).bodies);
      same_end = sym (ap (λ f. f.end) split) ∙ s.same_end;
      wrote = rw (ap (λ r. frames_of r.replies) after ∙ flat_map-append frame_of first.replies (replies_after config bodies body)) (Appends-trans v w x (frames_of first.replies) (frames_of (replies_after config bodies body)) s.wrote (wrote bodies s.knows));
      behind = same ∙ sym (ap (λ n. behind_frames n bytes) size ∙ behind_frames-snoc (length bodies) bytes ∙ ap (λ l. behind_first l (first_frame l)) (sym s.behind) ∙ ap (behind_first rest) t.first);
      taken = λ later.
          let counted : taken_from old.state (body ∷ later) ≡ suc (taken_from new.state later) = taken-open old.state body later open_still ∙ ap (λ u. suc (taken_from u later)) state in
          ap (taken_from (start config)) (append_assoc bodies (body ∷ []) later) ∙ s.taken (body ∷ later) ∙ omega (arith, counted, size);
    }

-- ---- at the end of the stream

ended_in-open : (phase : Phase) → is_exited phase ≡ false → (ended_in phase InputEnd ≡ how.InputEnd) × ((fault : _) → ended_in phase (BadFrame fault) ≡ how.BadFrame (code_of fault))
ended_in-open Uninitialized e = (refl, λ fault. refl)
ended_in-open Running e = (refl, λ fault. refl)
ended_in-open Shut e = (refl, λ fault. refl)
ended_in-open (Exited after_shutdown) e = cc

all_came : (bytes rest : List ℕ) (bodies : List (List ℕ)) (end : StreamEnd) → (frames bytes).bodies ≡ bodies ++ (frames rest).bodies → frames rest ≡ no_frames end → (frames bytes).bodies ≡ bodies
all_came bytes rest bodies end came none = came ∙ ap (λ f. bodies ++ f.bodies) none ∙ append-nil bodies

pub ends_with_stream : (config : Configuration) (a b c v w : Option (List ℕ)) (core : CoreState) (end : StreamEnd) (how_ended : Ended) → Serving config a b core v w → is_exited core.state.phase ≡ false
    → IfSome b (λ rest. frames rest ≡ no_frames end) → ((phase : Phase) → is_exited phase ≡ false → ended_in phase end ≡ how_ended) → (IsExit how_ended → ⊥) → IfSome a (λ bytes. Ends config bytes c v w how_ended)
ends_with_stream config None b c v w core end how_ended s open_still none is no_exit = tt
ends_with_stream config (Some bytes) None c v w core end how_ended s open_still none is no_exit = absurd s
ends_with_stream config (Some bytes) (Some rest) c v w core end how_ended s open_still none is no_exit =
    let all : (frames bytes).bodies ≡ s.bodies = all_came bytes rest s.bodies end (came s) none in
    let state : core.state ≡ (session config (frames bytes).bodies).state = knows-state config core s.bodies s.knows ∙ ap (λ bs. (session config bs).state) (sym all) in
    let last : (frames bytes).end ≡ end = sym s.same_end ∙ ap (λ f. f.end) none in
    record {
      whole = rw (ap (λ bs. frames_of (session config bs).replies) all) s.wrote;
      ended = sym (is core.state.phase open_still) ∙ ap (λ u. ended_in u.phase end) state ∙ ap (ended_in (session config (frames bytes).bodies).state.phase) (sym last);
      behind = λ exit. absurd (no_exit exit);
    }

pub ends_with_input : (phase : Phase) → is_exited phase ≡ false → ended_in phase InputEnd ≡ how.InputEnd
ends_with_input phase e = (ended_in-open phase e).0

-- ---- at an exit

silent-next : (r : Run) (phase : Phase) (body : List ℕ) → r.state.phase ≡ phase → is_exited phase ≡ true → next r body ≡ r
silent-next r (Exited after_shutdown) body e h =
    let t = λ (p : Phase). turn_in p r.state (message_of body) in
    let one : next r body ≡ record { state = r.state; replies = r.replies ++ [] } = ap (λ p. record { state = (t p).state; replies = r.replies ++ map compact_text (replies_of (t p).state (t p).pending) }) e in
    one ∙ ap (λ l. record { state = r.state; replies = l }) (append-nil r.replies)
silent-next r Uninitialized body e h = cc
silent-next r Running body e h = cc
silent-next r Shut body e h = cc

stays-exited : (r : Run) (bodies : List (List ℕ)) → is_exited r.state.phase ≡ true → fold next r bodies ≡ r
stays-exited r [] e = refl
stays-exited r (body ∷ bodies) e = ap (λ q. fold next q bodies) (silent-next r r.state.phase body refl e) ∙ stays-exited r bodies e

pub nothing_follows : (config : Configuration) (bodies later : List (List ℕ)) → is_exited (session config bodies).state.phase ≡ true → session config (bodies ++ later) ≡ session config bodies
nothing_follows config bodies later e = session-append config bodies later ∙ stays-exited (session config bodies) later e

taken-exited : (s : State) (later : List (List ℕ)) → is_exited s.phase ≡ true → taken_from s later ≡ 0
taken-exited s [] e = refl
taken-exited s (body ∷ later) e = rw e refl

pub exit_is : (phase : Phase) (after_shutdown : Bool) → exit_of phase ≡ Some after_shutdown → phase ≡ Exited after_shutdown
exit_is Uninitialized after_shutdown e = cc
exit_is Running after_shutdown e = cc
exit_is Shut after_shutdown e = cc
exit_is (Exited before) after_shutdown e = let same : before ≡ after_shutdown = cc in ap Exited same

exited : (phase : Phase) (after_shutdown : Bool) → phase ≡ Exited after_shutdown → is_exited phase ≡ true
exited phase after_shutdown e = rw e refl

pub exits_at : (config : Configuration) (a b v w : Option (List ℕ)) (core : CoreState) (after_shutdown : Bool) → Serving config a b core v w → core.state.phase ≡ Exited after_shutdown → IfSome a (λ bytes. Ends config bytes b v w (how.Exit after_shutdown))
exits_at config None b v w core after_shutdown s e = tt
exits_at config (Some bytes) None v w core after_shutdown s e = absurd s
exits_at config (Some bytes) (Some rest) v w core after_shutdown s e =
    let later = (frames rest).bodies in
    let state = knows-state config core s.bodies s.knows in
    let here : is_exited core.state.phase ≡ true = exited core.state.phase after_shutdown e in
    let same : session config (frames bytes).bodies ≡ session config s.bodies = ap (session config) (came s) ∙ session-append config s.bodies later ∙ stays-exited (session config s.bodies) later (ap (λ u. is_exited u.phase) (sym state) ∙ here) in
    let phase : (session config (frames bytes).bodies).state.phase ≡ Exited after_shutdown = ap (λ r. r.state.phase) same ∙ ap (λ u. u.phase) (sym state) ∙ e in
    let count : taken_from (start config) (frames bytes).bodies ≡ length s.bodies = ap (taken_from (start config)) (came s) ∙ s.taken later ∙ omega (arith, taken-exited core.state later here) in
    record {
      whole = rw (ap (λ r. frames_of r.replies) same) s.wrote;
      ended = sym (ap (λ p. ended_in p (frames bytes).end) phase);
      behind = λ exit. ap Some (s.behind ∙ ap (λ n. behind_frames n bytes) (sym count));
    }

-- ---- where something failed

-- the output goes on behind the replies to the first messages
replies-more : (r : Run) (bodies : List (List ℕ)) → (more : List (List ℕ)) × ((fold next r bodies).replies ≡ r.replies ++ more)
replies-more r [] = ([], sym (append-nil r.replies))
replies-more r (body ∷ bodies) =
    let here = map compact_text (replies_to r.state (message_of body)) in
    let behind = replies-more (next r body) bodies in
    (here ++ behind.0, behind.1 ∙ append_assoc r.replies here behind.0)

output-more : (config : Configuration) (bodies later : List (List ℕ)) → (more : List ℕ) × (frames_of (session config (bodies ++ later)).replies ≡ frames_of (session config bodies).replies ++ more)
output-more config bodies later =
    let first = session config bodies in
    let new = replies-more first later in
    (frames_of new.0, ap (λ r. frames_of r.replies) (session-append config bodies later) ∙ ap frames_of new.1 ∙ flat_map-append frame_of first.replies new.0)

pub stops : (config : Configuration) (a b v w : Option (List ℕ)) (core : CoreState) → Serving config a b core v w → IfSome a (λ bytes. SendsPrefix v w (output config bytes))
stops config None b v w core s = tt
stops config (Some bytes) None v w core s = absurd s
stops config (Some bytes) (Some rest) v w core s =
    let more = output-more config s.bodies (frames rest).bodies in
    front-of v w (frames_of (session config s.bodies).replies) more.0 (output config bytes) (ap (λ bs. frames_of (session config bs).replies) (came s) ∙ more.1) s.wrote

-- the writer failed within the replies to a message
pub stops_within : (config : Configuration) (a b c v w x : Option (List ℕ)) (core : CoreState) (body : List ℕ) → Serving config a b core v w → IfSome b (λ rest. TakesFrame rest c body)
    → ((bodies : List (List ℕ)) → Knows config core bodies → SendsPrefix w x (frames_of (replies_after config bodies body))) → IfSome a (λ bytes. SendsPrefix v x (output config bytes))
stops_within config None b c v w x core body s t sent = tt
stops_within config (Some bytes) None c v w x core body s t sent = absurd s
stops_within config (Some bytes) (Some rest) c v w x core body s t sent =
    let bodies = s.bodies in
    let first = session config bodies in
    let new = replies_after config bodies body in
    let later = (frames t.rest).bodies in
    let more = output-more config (bodies ++ body ∷ []) later in
    let all : (frames bytes).bodies ≡ (bodies ++ body ∷ []) ++ later = came s ∙ ap (λ f. bodies ++ f.bodies) t.others ∙ sym (append_assoc bodies (body ∷ []) later) in
    let after : frames_of (session config (bodies ++ body ∷ [])).replies ≡ frames_of first.replies ++ frames_of new = ap (λ r. frames_of r.replies) (session-snoc config bodies body) ∙ flat_map-append frame_of first.replies new in
    let whole : output config bytes ≡ frames_of first.replies ++ (frames_of new ++ more.0) = ap (λ bs. frames_of (session config bs).replies) all ∙ more.1 ∙ ap (λ l. l ++ more.0) after ∙ append_assoc (frames_of first.replies) (frames_of new) more.0 in
    front-behind v w x (frames_of first.replies) (frames_of new) more.0 (output config bytes) whole s.wrote (sent bodies s.knows)

-- ---- the frames of some replies

pub frames-sent : (v w x : Option (List ℕ)) (replies : List (List ℕ)) (i : ℕ) (reply : List ℕ) (n : ℕ) → i < length replies → reply ≡ get_or replies i reply → Appends v w (frames_of (take i replies)) → n < length (frame_of reply) → Appends w x (take n (frame_of reply)) → SendsPrefix v x (frames_of replies)
frames-sent v w x replies i reply n lt is before fits here =
    let cut : replies ≡ take i replies ++ reply ∷ drop (i + 1) replies = sym (take-append-drop i replies) ∙ ap (λ l. take i replies ++ l) (drop_more replies i reply lt ∙ ap (λ r. r ∷ drop (i + 1) replies) (sym is)) in
    let whole : frames_of replies ≡ frames_of (take i replies) ++ (frame_of reply ++ frames_of (drop (i + 1) replies)) = ap frames_of cut ∙ flat_map-append frame_of (take i replies) (reply ∷ drop (i + 1) replies) in
    front-behind v w x (frames_of (take i replies)) (frame_of reply) (frames_of (drop (i + 1) replies)) (frames_of replies) whole before (n, omega (arith, fits), here)

pub frames-more : (replies : List (List ℕ)) (i : ℕ) (reply : List ℕ) → i < length replies → reply ≡ get_or replies i reply → frames_of (take (i + 1) replies) ≡ frames_of (take i replies) ++ frame_of reply
frames-more replies i reply lt is =
    ap frames_of (take_more replies i reply lt ∙ ap (λ r. take i replies ++ r ∷ []) (sym is)) ∙ flat_map-append frame_of (take i replies) (reply ∷ []) ∙ ap (λ l. frames_of (take i replies) ++ l) (append-nil (frame_of reply))

-- ---- what was answered where it stopped

first-of-none : first_frame [] ≡ NoFrame InputEnd
unfolding first_frame header_len least_below
first-of-none = refl

bodies-of-none : (frames []).bodies ≡ []
bodies-of-none = ap (λ f. f.bodies) (frames-end [] InputEnd first-of-none)

one-body : (frame body : List ℕ) → first_frame frame ≡ Whole body [] → (frames frame).bodies ≡ body ∷ []
one-body frame body is = ap (λ f. f.bodies) (frames-whole frame body [] is) ∙ ap (λ l. body ∷ l) bodies-of-none

module _ (config : Configuration) (bytes rest : List ℕ) (c v w : Option (List ℕ)) (core : CoreState) (s : Serves config bytes rest core v w) (taken left : List ℕ) (cut : rest ≡ taken ++ left) (is_left : c ≡ Some left) where
  output-taken : (body : Option (List ℕ)) → (frames taken).bodies ≡ option_to_list body → output config (s.front ++ taken) ≡ frames_of (session config (s.bodies ++ option_to_list body)).replies
  output-taken body one = ap (λ bs. frames_of (session config bs).replies) (s.whatever taken ∙ ap (λ l. s.bodies ++ l) one)

  -- the replies to the messages before went out, and a part of what is said to these last bytes
  answered-part : (x : Option (List ℕ)) (body : Option (List ℕ)) (said : List ℕ) (n : ℕ) → (frames taken).bodies ≡ option_to_list body → output config (s.front ++ taken) ≡ frames_of (session config s.bodies).replies ++ said → Appends w x (take n said)
      → Answered config bytes taken c v x
  answered-part x body said n one says part =
      let first = frames_of (session config s.bodies).replies in
      let before : (frames s.front).bodies ≡ s.bodies = ap (λ l. (frames l).bodies) (sym (append-nil s.front)) ∙ s.whatever [] ∙ ap (λ l. s.bodies ++ l) bodies-of-none ∙ append-nil s.bodies in
      let sent : take (length first + n) (output config (s.front ++ taken)) ≡ first ++ take n said = ap (take (length first + n)) says ∙ take-append-add first said n in
      record {
        front = s.front;
        rest = left;
        joined = s.joined ∙ ap (λ l. s.front ++ l) cut ∙ sym (append_assoc s.front taken left);
        is_left = is_left;
        one_at_most = (body, s.whatever taken ∙ ap (λ l. s.bodies ++ l) one ∙ ap (λ bs. bs ++ option_to_list body) (sym before));
        sent = length first + n;
        enough = omega (arith, ap (λ bs. length (frames_of (session config bs).replies)) before);
        wrote = subst (λ l. Appends v x l) (sym sent) (Appends-trans v w x first (take n said) s.wrote part);
      }

  -- and nothing of what is said to these
  answered-none : (body : Option (List ℕ)) → (frames taken).bodies ≡ option_to_list body → Answered config bytes taken c v w
  answered-none body one =
      let more = output-more config s.bodies (option_to_list body) in
      answered-part w body more.0 0 one (output-taken body one ∙ more.1) (Appends-nil w)

-- before anything was read
unread : (config : Configuration) (a v : Option (List ℕ)) → IfSome a (λ bytes. (last : List ℕ) × Answered config bytes last a v v)
unread config None v = tt
unread config (Some bytes) v =
    let silent : output config [] ≡ [] = ap (λ bs. frames_of (session config bs).replies) bodies-of-none ∙ ap (λ r. frames_of r.replies) (session-none config) in (
      [],
      record {
        front = [];
        rest = bytes;
        joined = refl;
        is_left = refl;
        one_at_most = (None, sym (append-nil (frames []).bodies));
        sent = 0;
        enough = omega (arith, ap length silent);
        wrote = Appends-nil v;
      },
    )

-- between two messages
unread-since : (config : Configuration) (a b v w : Option (List ℕ)) (core : CoreState) → Serving config a b core v w → IfSome a (λ bytes. (last : List ℕ) × Answered config bytes last b v w)
unread-since config None b v w core s = tt
unread-since config (Some bytes) None v w core s = absurd s
unread-since config (Some bytes) (Some rest) v w core s = ([], answered-none config bytes rest (Some rest) v w core s [] rest refl refl None bodies-of-none)

-- where the source failed
answered_so_far : (config : Configuration) (a b c v w : Option (List ℕ)) (core : CoreState) → Serving config a b core v w → IfSome b (λ rest. BreaksOff rest c) → IfSome a (λ bytes. Answered config bytes [] c v w)
answered_so_far config None b c v w core s broken = tt
answered_so_far config (Some bytes) None c v w core s broken = absurd s
answered_so_far config (Some bytes) (Some rest) c v w core s broken =
    let front = s.front ++ broken.taken in
    let all : (frames front).bodies ≡ s.bodies = s.whatever broken.taken ∙ ap (λ f. s.bodies ++ f.bodies) (frames-end broken.taken broken.end broken.first) ∙ append-nil s.bodies in
    let same : front ++ [] ≡ front = append-nil front in
    let sent : take (length (output config front)) (output config (front ++ [])) ≡ frames_of (session config s.bodies).replies =
    ap (λ l. take (length (output config front)) (output config l)) same ∙ take_all (length (output config front)) (output config front) (omega arith) ∙ ap (λ bs. frames_of (session config bs).replies) all in
    record {
      front = front;
      rest = broken.rest;
      joined = s.joined ∙ ap (λ l. s.front ++ l) broken.joined ∙ sym (append_assoc s.front broken.taken broken.rest) ∙ ap (λ l. l ++ broken.rest) (sym same);
      is_left = broken.is_left;
      one_at_most = (None, ap (λ l. (frames l).bodies) same ∙ sym (append-nil (frames front).bodies));
      sent = length (output config front);
      enough = omega arith;
      wrote = subst (λ l. Appends v w l) (sym sent) s.wrote;
    }

with_none : (a left v w : Option (List ℕ)) (config : Configuration) → IfSome a (λ bytes. Answered config bytes [] left v w) → IfSome a (λ bytes. (last : List ℕ) × Answered config bytes last left v w)
with_none None left v w config answered = tt
with_none (Some bytes) left v w config answered = ([], answered)

-- where memory ran out as a frame was read
taken-bodies : (taken : List ℕ) → ((end : StreamEnd) × (first_frame taken ≡ NoFrame end)) ⊎ ((body : List ℕ) × IsFrame taken body) → (body : Option (List ℕ)) × ((frames taken).bodies ≡ option_to_list body)
taken-bodies taken (inl none) = (None, ap (λ f. f.bodies) (frames-end taken none.0 none.1))
taken-bodies taken (inr whole) = (Some whole.0, one-body taken whole.0 whole.1)

loses_frame : (config : Configuration) (a b c v w : Option (List ℕ)) (core : CoreState) → Serving config a b core v w → IfSome b (λ rest. RunsOut rest c) → IfSome a (λ bytes. (last : List ℕ) × Answered config bytes last c v w)
loses_frame config None b c v w core s out = tt
loses_frame config (Some bytes) None c v w core s out = absurd s
loses_frame config (Some bytes) (Some rest) c v w core s out =
    let one = taken-bodies out.taken out.within in
    (out.taken, answered-none config bytes rest c v w core s out.taken out.rest out.joined out.is_left one.0 one.1)

-- where a message wasn't answered, or the writer failed within the replies to it
pub loses_message : (config : Configuration) (a b c v w x : Option (List ℕ)) (core : CoreState) (body : List ℕ) → Serving config a b core v w → IfSome b (λ rest. TakesFrame rest c body)
    → ((bodies : List (List ℕ)) → Knows config core bodies → SendsPrefix w x (frames_of (replies_after config bodies body))) → IfSome a (λ bytes. (last : List ℕ) × Answered config bytes last c v x)
loses_message config None b c v w x core body s t sent = tt
loses_message config (Some bytes) None c v w x core body s t sent = absurd s
loses_message config (Some bytes) (Some rest) c v w x core body s t sent =
    let first = session config s.bodies in
    let new = replies_after config s.bodies body in
    let begin = begins_with rest body t.rest t.first in
    let one : (frames begin.frame).bodies ≡ body ∷ [] = one-body begin.frame body (ap first_frame (sym (append-nil begin.frame)) ∙ begin.whatever []) in
    let says : output config (s.front ++ begin.frame) ≡ frames_of first.replies ++ frames_of new =
    output-taken config bytes rest c v w core s begin.frame t.rest begin.joined t.is_left (Some body) one ∙ ap (λ r. frames_of r.replies) (session-snoc config s.bodies body) ∙ flat_map-append frame_of first.replies new in
    let part = sent s.bodies s.knows in
    (begin.frame, answered-part config bytes rest c v w core s begin.frame t.rest begin.joined t.is_left x (Some body) (frames_of new) part.0 one says part.2)

-- ---- a message

message_in : (config : Configuration) (a c v x : Option (List ℕ)) (core : CoreState) (exit : Option Bool) → exit_of core.state.phase ≡ exit → Serving config a c core v x → Comes config a c core v x None (Ok (option_map how.Exit exit))
message_in config a c v x core None is s = (s, ap is_some is, refl)
message_in config a c v x core (Some after_shutdown) is s = record { ends = exits_at config a c v x core after_shutdown s (exit_is core.state.phase after_shutdown is); code = tt; leaves = refl }

-- it was answered
pub message_comes : (config : Configuration) (a c v x : Option (List ℕ)) (core : CoreState) → Serving config a c core v x → Comes config a c core v x None (Ok (exit_in core.state.phase))
message_comes config a c v x core s = message_in config a c v x core (exit_of core.state.phase) refl s

-- it wasn't
pub message_fails : (config : Configuration) (a c v x : Option (List ℕ)) (old new : Counts) (fault : ServeFault) → IsWriteOrCore old new fault → IfSome a (λ bytes. SendsPrefix v x (output config bytes))
    → IfSome a (λ bytes. (last : List ℕ) × Answered config bytes last c v x) → (fault ≡ served.Exhausted → IfSome a (λ bytes. ExhaustsStamps 0 config (length (frames bytes).bodies))) → Fails config a c v x fault
message_fails config a c v x old new served.Read of prefix loses stamps = absurd of
message_fails config a c v x old new served.Write of prefix loses stamps = record { prefix = prefix; loses = loses; answered = λ e. cc; stamps = stamps; comes = tt }
message_fails config a c v x old new served.Memory of prefix loses stamps = record { prefix = prefix; loses = loses; answered = λ e. cc; stamps = stamps; comes = tt }
message_fails config a c v x old new served.ThreadRefused of prefix loses stamps = record { prefix = prefix; loses = loses; answered = λ e. cc; stamps = stamps; comes = tt }
message_fails config a c v x old new served.Exhausted of prefix loses stamps = record { prefix = prefix; loses = loses; answered = λ e. cc; stamps = stamps; comes = tt }
message_fails config a c v x old new served.BadRoot of prefix loses stamps = absurd of
message_fails config a c v x old new (served.BadPath index) of prefix loses stamps = absurd of

message_cause : (a b old new : Counts) (fault : ServeFault) → IsWriteOrCore old new fault → IsCaused a b old new fault
message_cause a b old new served.Read of = absurd of
message_cause a b old new served.Write of = of
message_cause a b old new served.Memory of = tt
message_cause a b old new served.ThreadRefused of = tt
message_cause a b old new served.Exhausted of = tt
message_cause a b old new served.BadRoot of = absurd of
message_cause a b old new (served.BadPath index) of = absurd of

pub message_caused : {A : Type 0} (a b old new : Counts) (result : Result A ServeFault) → IfErr result (IsWriteOrCore old new) → IfErr result (IsCaused a b old new)
message_caused a b old new (Ok x) of = tt
message_caused a b old new (Err fault) of = message_cause a b old new fault of

-- ---- no further message

if_some_map : {A : Type 0} (o : Option A) (P Q : A → Type 0) → ((x : A) → P x → Q x) → IfSome o P → IfSome o Q
if_some_map None P Q f h = tt
if_some_map (Some x) P Q f h = f x h

module _ (config : Configuration) (a b c v w : Option (List ℕ)) (core : CoreState) (so_far : Serving config a b core v w) (not_exited : is_exited core.state.phase ≡ false) where
  -- the input ended
  pub input_ends : IfSome b (λ rest. (rest ≡ []) × ShowsEnd rest c InputEnd) → Comes config a c core v w (Some AtEnd) (Ok (Some how.InputEnd))
  input_ends shown = record {
    ends = ends_with_stream config a b c v w core InputEnd how.InputEnd so_far not_exited (if_some_map b _ (λ rest. frames rest ≡ no_frames InputEnd) (λ rest s. s.1.none) shown) ends_with_input (λ no. no);
    code = tt;
    leaves = refl;
  }

  bad_frame : (fault : FrameFault) → (101 ≤ code_of fault) × (code_of fault ≤ 106) → IfSome b (λ rest. ShowsEnd rest c (BadFrame fault)) → Finishes config a c v w (Some (Failed fault)) (how.BadFrame (code_of fault))
  bad_frame fault code shown = record {
    ends = ends_with_stream config a b c v w core (BadFrame fault) (how.BadFrame (code_of fault)) so_far not_exited (if_some_map b (λ rest. ShowsEnd rest c (BadFrame fault)) (λ rest. frames rest ≡ no_frames (BadFrame fault)) (λ rest s. s.none) shown)
        (λ phase e. (ended_in-open phase e).1 fault) (λ no. no);
    code = code;
    leaves = (fault, refl, refl);
  }

  -- there is none for this reason
  pub fault_comes : (fault : FrameFault) → IfSome b (λ rest. Shows rest c fault) → Comes config a c core v w (Some (Failed fault)) (end_by fault)
  fault_comes BadHeader shown = bad_frame BadHeader (omega arith, omega arith) shown
  fault_comes NoLength shown = bad_frame NoLength (omega arith, omega arith) shown
  fault_comes BadLength shown = bad_frame BadLength (omega arith, omega arith) shown
  fault_comes BodyTooLong shown = bad_frame BodyTooLong (omega arith, omega arith) shown
  fault_comes HeaderTooLong shown = bad_frame HeaderTooLong (omega arith, omega arith) shown
  fault_comes Truncated shown = bad_frame Truncated (omega arith, omega arith) shown
  fault_comes Read shown =
      let answered = answered_so_far config a b c v w core so_far shown in
      record { prefix = stops config a b v w core so_far; loses = with_none a c v w config answered; answered = λ e. answered; stamps = λ e. cc; comes = tt }
  fault_comes Memory shown = record { prefix = stops config a b v w core so_far; loses = loses_frame config a b c v w core so_far shown; answered = λ e. cc; stamps = λ e. cc; comes = tt }

-- the session doesn't go on
pub ends_by-not : (fault : FrameFault) → end_by fault ≡ Ok None → ⊥
ends_by-not BadHeader e = cc
ends_by-not NoLength e = cc
ends_by-not BadLength e = cc
ends_by-not BodyTooLong e = cc
ends_by-not HeaderTooLong e = cc
ends_by-not Truncated e = cc
ends_by-not Read e = cc
ends_by-not Memory e = cc

-- the counts of the source, where the reader answered a fault
pub fault_calls : (old new : Counts) (fault : FrameFault) → NoneFell old new → NoErrorUnlessRead old new fault → new.errors ≤ old.errors + 1 → Calls served.Read old new (end_by fault)
fault_calls old new BadHeader counts calm once = record { counts = counts; calm = calm; reported = tt; once = once }
fault_calls old new NoLength counts calm once = record { counts = counts; calm = calm; reported = tt; once = once }
fault_calls old new BadLength counts calm once = record { counts = counts; calm = calm; reported = tt; once = once }
fault_calls old new BodyTooLong counts calm once = record { counts = counts; calm = calm; reported = tt; once = once }
fault_calls old new HeaderTooLong counts calm once = record { counts = counts; calm = calm; reported = tt; once = once }
fault_calls old new Truncated counts calm once = record { counts = counts; calm = calm; reported = tt; once = once }
fault_calls old new Read counts calm once = record { counts = counts; calm = tt; reported = λ other. absurd (other refl); once = once }
fault_calls old new Memory counts calm once = record { counts = counts; calm = tt; reported = λ other. calm; once = once }

pub fault_cause : (old new k l : Counts) (fault : FrameFault) → HasCause old new fault → IfErr (end_by fault) (IsCaused old new k l)
fault_cause old new k l BadHeader h = tt
fault_cause old new k l NoLength h = tt
fault_cause old new k l BadLength h = tt
fault_cause old new k l BodyTooLong h = tt
fault_cause old new k l HeaderTooLong h = tt
fault_cause old new k l Truncated h = tt
fault_cause old new k l Read h = h
fault_cause old new k l Memory h = tt

-- ---- calls to a device

pub no_calls : {A : Type 0} (own : ServeFault) (a : Counts) (result : Result A ServeFault) → Calls own a a result
no_calls own a (Ok x) = record { counts = NoneFell-refl a; calm = refl; reported = tt; once = omega arith }
no_calls own a (Err e) = record { counts = NoneFell-refl a; calm = tt; reported = λ other. refl; once = omega arith }

pub good_calls : {A B : Type 0} (own : ServeFault) (a b : Counts) (x : A) (y : B) → Calls {A = A} own a b (Ok x) → Calls {A = B} own a b (Ok y)
good_calls own a b x y calls = record { counts = calls.counts; calm = calls.calm; reported = tt; once = calls.once }

pub bad_calls : {A B : Type 0} (own : ServeFault) (a b : Counts) (fault : ServeFault) → Calls {A = A} own a b (Err fault) → Calls {A = B} own a b (Err fault)
bad_calls own a b fault calls = record { counts = calls.counts; calm = tt; reported = calls.reported; once = calls.once }

-- calls that met no error, whatever came of them
pub calm_calls : {A : Type 0} (own : ServeFault) (a b : Counts) (result : Result A ServeFault) → NoneFell a b → NoError a b → b.errors ≤ a.errors + 1 → Calls own a b result
calm_calls own a b (Ok x) fell calm once = record { counts = fell; calm = calm; reported = tt; once = once }
calm_calls own a b (Err e) fell calm once = record { counts = fell; calm = tt; reported = λ other. calm; once = once }

-- behind calls that met no error
pub more_calls : {A : Type 0} (own : ServeFault) (a b c : Counts) (result : Result A ServeFault) → NoneFell a b → NoError a b → Calls own b c result → Calls own a c result
more_calls own a b c (Ok x) fell calm calls = record { counts = NoneFell-trans fell calls.counts; calm = calls.calm ∙ calm; reported = tt; once = omega (arith, calm, calls.once) }
more_calls own a b c (Err e) fell calm calls = record { counts = NoneFell-trans fell calls.counts; calm = tt; reported = λ other. calls.reported other ∙ calm; once = omega (arith, calm, calls.once) }

-- a fault behind other calls
pub more_cause : (a b c k l m : Counts) (fault : ServeFault) → NoneFell a b → NoneFell k l → IsCaused b c l m fault → IsCaused a c k m fault
more_cause a b c k l m served.Read reads writes of = HasFailed-after reads of
more_cause a b c k l m served.Write reads writes of = HasFailed-after writes of
more_cause a b c k l m served.Memory reads writes of = tt
more_cause a b c k l m served.ThreadRefused reads writes of = tt
more_cause a b c k l m served.Exhausted reads writes of = tt
more_cause a b c k l m served.BadRoot reads writes of = tt
more_cause a b c k l m (served.BadPath index) reads writes of = tt

-- ---- a fault of the core or of its workers

pub of_core : (fault : CoreFault) → IsOfCore (serve_fault_of fault)
of_core core_fault.Memory = tt
of_core core_fault.ThreadRefused = tt
of_core core_fault.Exhausted = tt

pub of_core_or_write : (old new : Counts) (fault : ServeFault) → IsOfCore fault → IsWriteOrCore old new fault
of_core_or_write old new served.Read of = absurd of
of_core_or_write old new served.Write of = absurd of
of_core_or_write old new served.Memory of = tt
of_core_or_write old new served.ThreadRefused of = tt
of_core_or_write old new served.Exhausted of = tt
of_core_or_write old new served.BadRoot of = absurd of
of_core_or_write old new (served.BadPath index) of = absurd of

pub core_caused : (a b k l : Counts) (fault : ServeFault) → IsOfCore fault → IsCaused a b k l fault
core_caused a b k l served.Read of = absurd of
core_caused a b k l served.Write of = absurd of
core_caused a b k l served.Memory of = tt
core_caused a b k l served.ThreadRefused of = tt
core_caused a b k l served.Exhausted of = tt
core_caused a b k l served.BadRoot of = tt
core_caused a b k l (served.BadPath index) of = tt

core_fails : (config : Configuration) (a left v w : Option (List ℕ)) (fault : ServeFault) → IsOfCore fault → IfSome a (λ bytes. SendsPrefix v w (output config bytes))
    → IfSome a (λ bytes. (last : List ℕ) × Answered config bytes last left v w) → (fault ≡ served.Exhausted → IfSome a (λ bytes. ExhaustsStamps 0 config (length (frames bytes).bodies))) → Fails config a left v w fault
core_fails config a left v w fault of prefix loses stamps =
    message_fails config a left v w no_counts no_counts fault (of_core_or_write no_counts no_counts fault of) prefix loses stamps

nothing_so_far : (config : Configuration) (a v : Option (List ℕ)) → IfSome a (λ bytes. SendsPrefix v v (output config bytes))
nothing_so_far config None v = tt
nothing_so_far config (Some bytes) v = nothing_sent v (output config bytes)

-- before its first message
exhausts_from : (config : Configuration) (a : Option (List ℕ)) → StampsRunOut 0 (length (workspace (files_of config))) → IfSome a (λ bytes. ExhaustsStamps 0 config (length (frames bytes).bodies))
exhausts_from config None out = tt
exhausts_from config (Some bytes) out = files_alone config (length (frames bytes).bodies) out

pub fails_at_start : (config : Configuration) (a v : Option (List ℕ)) (fault : ServeFault) → IsOfCore fault → (fault ≡ served.Exhausted → StampsRunOut 0 (length (workspace (files_of config)))) → Fails config a a v v fault
fails_at_start config a v fault of stamps = core_fails config a a v v fault of (nothing_so_far config a v) (unread config a v) (λ e. exhausts_from config a (stamps e))

-- between two messages
pub fails_between : (config : Configuration) (a b v w : Option (List ℕ)) (core : CoreState) (fault : ServeFault) → Serving config a b core v w → IsOfWorkers fault → Fails config a b v w fault
fails_between config a b v w core fault so_far of =
    core_fails config a b v w fault (of_workers fault of) (stops config a b v w core so_far) (unread-since config a b v w core so_far) (λ e. absurd (not_of_workers fault of e))

-- a message found no stamp
pub exhausts_message : (config : Configuration) (a b c v w : Option (List ℕ)) (core : CoreState) (body : List ℕ) → Serving config a b core v w → IfSome b (λ rest. TakesFrame rest c body)
    → ((bodies : List (List ℕ)) → Knows config core bodies → ExhaustsStamps 0 config (length (bodies ++ body ∷ []))) → IfSome a (λ bytes. ExhaustsStamps 0 config (length (frames bytes).bodies))
exhausts_message config None b c v w core body s t out = tt
exhausts_message config (Some bytes) None c v w core body s t out = absurd s
exhausts_message config (Some bytes) (Some rest) c v w core body s t out =
    let bodies = s.bodies in
    let later = (frames t.rest).bodies in
    let all : (frames bytes).bodies ≡ (bodies ++ body ∷ []) ++ later = came s ∙ ap (λ f. bodies ++ f.bodies) t.others ∙ sym (append_assoc bodies (body ∷ []) later) in
    let here = out bodies s.knows in
    omega (arith, here, ap length all, length-append (bodies ++ body ∷ []) later)

-- ---- work between two messages

pub serving-on : (config : Configuration) (a b v w : Option (List ℕ)) (old new : CoreState) → Serving config a b old v w → new.state ≡ old.state → ((h : List Event) → IsAfter 0 config old h → WorksOn 0 config new h) → Serving config a b new v w
serving-on config None b v w old new s same works = tt
serving-on config (Some bytes) None v w old new s same works = absurd s
serving-on config (Some bytes) (Some rest) v w old new s same works = record {
  bodies = s.bodies;
  knows = knows-on config old new s.bodies s.knows works;
  front = s.front;
  joined = s.joined;
  whatever = s.whatever;
  same_end = s.same_end;
  wrote = s.wrote;
  behind = s.behind;
  taken = λ later. s.taken later ∙ ap (λ u. length s.bodies + taken_from u later) (sym same);
}

-- ---- a session to its end

module _ (config : Configuration) (a left v w : Option (List ℕ)) (last : Option LastAnswer) where
  all-prefix : (all : List ℕ) → Appends v w all → SendsPrefix v w all
  all-prefix all sent = (length all, omega arith, rw (take_all (length all) all (omega arith)) sent)

  pub served-prefix : (result : Result Ended ServeFault) → Served config a left v w last result → IfSome a (λ bytes. SendsPrefix v w (output config bytes))
  served-prefix (Ok end) s = if_some_map a (λ bytes. Ends config bytes left v w end) _ (λ bytes e. all-prefix (output config bytes) e.whole) s.ends
  served-prefix (Err fault) s = s.prefix

  untold : (o : Option (List ℕ)) → IfSome o (λ bytes. ⊤)
  untold None = tt
  untold (Some bytes) = tt

  pub served-whole : (result : Result Ended ServeFault) → Served config a left v w last result → IfSome a (λ bytes. OnOk result (Appends v w (output config bytes)))
  served-whole (Ok end) s = if_some_map a (λ bytes. Ends config bytes left v w end) _ (λ bytes e. e.whole) s.ends
  served-whole (Err fault) s = untold a

  pub served-ended : (result : Result Ended ServeFault) → Served config a left v w last result → IfSome a (λ bytes. IfOk result (λ end. end ≡ ended config bytes))
  served-ended (Ok end) s = if_some_map a (λ bytes. Ends config bytes left v w end) _ (λ bytes e. e.ended) s.ends
  served-ended (Err fault) s = untold a

  pub served-behind : (result : Result Ended ServeFault) → Served config a left v w last result → IfSome a (λ bytes. IfOk result (λ end. IsExit end → left ≡ Some (behind_exit config bytes)))
  served-behind (Ok end) s = if_some_map a (λ bytes. Ends config bytes left v w end) _ (λ bytes e. e.behind) s.ends
  served-behind (Err fault) s = untold a

  pub served-leaves : (result : Result Ended ServeFault) → Served config a left v w last result → IfOk result (LeavesReader last)
  served-leaves (Ok end) s = s.leaves
  served-leaves (Err fault) s = tt

  exit-open : (end : Ended) → LeavesReader last end → IsExit end → last ≡ None
  exit-open (how.Exit after_shutdown) l exit = l
  exit-open how.InputEnd l exit = absurd exit
  exit-open (how.BadFrame code) l exit = absurd exit

  pub served-goes_on : (result : Result Ended ServeFault) → Served config a left v w last result → IfOk result (λ end. IsExit end → last ≡ None)
  served-goes_on (Ok end) s = exit-open end s.leaves
  served-goes_on (Err fault) s = tt

  pub served-code : (result : Result Ended ServeFault) → Served config a left v w last result → IfOk result HasFrameCode
  served-code (Ok end) s = s.code
  served-code (Err fault) s = tt

  pub served-loses : (result : Result Ended ServeFault) → Served config a left v w last result → OnErr result (IfSome a (λ bytes. (lost : List ℕ) × Answered config bytes lost left v w))
  served-loses (Ok end) s = tt
  served-loses (Err fault) s = s.loses

  pub served-answered : (result : Result Ended ServeFault) → Served config a left v w last result → IfErr result (λ fault. fault ≡ served.Read → IfSome a (λ bytes. Answered config bytes [] left v w))
  served-answered (Ok end) s = tt
  served-answered (Err fault) s = s.answered

  pub served-exhausted : (result : Result Ended ServeFault) → Served config a left v w last result → result ≡ Err served.Exhausted → IfSome a (λ bytes. ExhaustsStamps 0 config (length (frames bytes).bodies))
  served-exhausted (Ok end) s e = cc
  served-exhausted (Err fault) s e = let same : fault ≡ served.Exhausted = cc in s.stamps same

  pub served-fault : (result : Result Ended ServeFault) → Served config a left v w last result → IfErr result ComesWhileServing
  served-fault (Ok end) s = tt
  served-fault (Err fault) s = s.comes

pub cause-read : (a b k l : Counts) (result : Result Ended ServeFault) → IfErr result (IsCaused a b k l) → IfErr result (λ fault. fault ≡ served.Read → HasFailed a b)
cause-read a b k l (Ok end) h = tt
cause-read a b k l (Err served.Read) h = λ e. h
cause-read a b k l (Err served.Write) h = λ e. cc
cause-read a b k l (Err served.Memory) h = λ e. cc
cause-read a b k l (Err served.ThreadRefused) h = λ e. cc
cause-read a b k l (Err served.Exhausted) h = λ e. cc
cause-read a b k l (Err served.BadRoot) h = λ e. cc
cause-read a b k l (Err (served.BadPath index)) h = λ e. cc

pub cause-write : (a b k l : Counts) (result : Result Ended ServeFault) → IfErr result (IsCaused a b k l) → IfErr result (λ fault. fault ≡ served.Write → HasFailed k l)
cause-write a b k l (Ok end) h = tt
cause-write a b k l (Err served.Read) h = λ e. cc
cause-write a b k l (Err served.Write) h = λ e. h
cause-write a b k l (Err served.Memory) h = λ e. cc
cause-write a b k l (Err served.ThreadRefused) h = λ e. cc
cause-write a b k l (Err served.Exhausted) h = λ e. cc
cause-write a b k l (Err served.BadRoot) h = λ e. cc
cause-write a b k l (Err (served.BadPath index)) h = λ e. cc
