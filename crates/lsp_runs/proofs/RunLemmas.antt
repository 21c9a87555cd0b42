-- Runs of a core, event by event.
use Rattle.std.proofs.Common.{◌≡◌, ℕ, suc, Bool, true, false, cond, ◌+◌, ◌≤◌, List, [], ◌∷◌, ◌++◌, length, map, filter, refl, sym, ap, subst, ◌∙◌, arith, append-nil, append_assoc, length-append, take, ap₂}
use Rattle.piece_collector.specs.declared.verdict.Verdict.{Verdict}
use Rattle.std.proofs.lemmas.List.{take-append-le}
use Rattle.work_config.specs.Configuration.{Configuration}
use Rattle.lsp_core.specs.Core.{Event, Advance, messages, processed, done, CoreState, IsAfter, FindsNoStamp, ExhaustsStamps, Advances}
use Rattle.lsp_core.specs.Run.{Incoming, Message, Made, Failed, Work, is_message, verdicts_of, Extends, Follows, Runs, HasRun, HasCome, HasFollowed}
use Rattle.lsp_runs.specs.Listed.{incoming_of}
use Rattle.lsp_core.specs.Session.{session}
use Rattle.lsp_core.specs.Steps.{unprocessed}
use Rattle.lsp_runs.specs.declared.run.CoreEvent.{CoreEvent}
use Rattle.lsp_core.proofs.StampLemmas.{exhausts_stamps}
use Rattle.lsp_core.proofs.CoreLemmas.{session-none, processed-known, unprocessed-is, messages-steps, messages-rounds, processed-rounds}

-- ---- one event, and then an advance

-- what comes processes nothing
done-comes : (o : ℕ) (config : Configuration) (e : Incoming) (h after : List Event) → Extends o config e h after → processed h ≤ length (messages h) → done after ≡ done h
done-comes o config (Message body) h after comes known = ap done comes ∙ take-append-le (processed h) (messages h) (body ∷ []) known
done-comes o config (Made path stamp text) h after comes known = ap done comes
done-comes o config (Failed path stamp) h after comes known = ap done comes
done-comes o config Work h after comes known = ap done comes.is ∙ ap₂ take (processed-rounds o config comes.rounds h) (messages-rounds o config comes.rounds h)

pub followed : (o : ℕ) (config : Configuration) (old mid new : CoreState) (e : Incoming) (h : List Event) (replies later more : List (List ℕ)) (verdicts told judged : List Verdict) → IsAfter o config old h → HasCome o config mid e h
    → ((g : List Event) → IsAfter o config mid g → Advances o config new g later) → told ≡ verdicts_of o config h e → judged ≡ verdicts ++ told → more ≡ replies ++ later → HasFollowed o config new e h replies more verdicts judged
followed o config old mid new e h replies later more verdicts told judged before come advances answered pushed appended =
    let a = advances come.after come.is_after in
    record {
      next = map Advance a.taken.steps ++ come.after;
      follows = record { after = come.after; comes = come.comes; steps = a.taken.steps; is = refl; legal = a.taken.is_after.legal; settled = a.settled };
      is_after = a.taken.is_after;
      replied = λ same. appended ∙ ap (λ l. l ++ later) (same ∙ ap (λ b. (session config b).replies) (sym (done-comes o config e h come.after come.comes (processed-known o config h before.legal)))) ∙ sym a.taken.replied;
      judged = pushed ∙ ap (λ l. verdicts ++ l) answered;
    }

-- ---- runs

-- one more event behind a run
runs-more : (o : ℕ) (config : Configuration) (es : List Incoming) (e : Incoming) (h mid last : List Event) (verdicts : List Verdict) → Runs o config h es mid verdicts → Follows o config e mid last
    → Runs o config h (es ++ e ∷ []) last (verdicts ++ verdicts_of o config mid e)
runs-more o config [] e h mid last verdicts runs f =
    let same = runs.0 in
    (last, subst (λ g. Follows o config e g last) same f, ([], ap (λ v. v ++ verdicts_of o config mid e) runs.1 ∙ ap (λ g. verdicts_of o config g e) same ∙ sym (append-nil (verdicts_of o config h e)), (refl, refl)))
runs-more o config (x ∷ es) e h mid last verdicts runs f =
    let later = runs.2.0 in
    (runs.0, runs.1, (later ++ verdicts_of o config mid e, ap (λ v. v ++ verdicts_of o config mid e) runs.2.1 ∙ append_assoc (verdicts_of o config h x) later (verdicts_of o config mid e), runs-more o config es e runs.0 mid last later runs.2.2 f))

-- the core is as after a run of these events
pub record HasRunTo (config : Configuration) (core : CoreState) (es : List Incoming) (replies : List (List ℕ)) (verdicts : List Verdict) : Type 0 where
  pub history : List Event
  pub runs : Runs 0 config [] es history verdicts
  pub is_after : IsAfter 0 config core history
  pub replied : replies ≡ (session config (done history)).replies

pub run_none : (config : Configuration) (core : CoreState) (replies : List (List ℕ)) (verdicts : List Verdict) → IsAfter 0 config core [] → replies ≡ [] → verdicts ≡ [] → HasRunTo config core [] replies verdicts
run_none config core replies verdicts after none silent = record {
  history = [];
  runs = (refl, silent);
  is_after = after;
  replied = none ∙ sym (ap (λ r. r.replies) (session-none config));
}

pub run_more : (config : Configuration) (old new : CoreState) (es : List Incoming) (e : Incoming) (replies more : List (List ℕ)) (verdicts judged : List Verdict) → HasRunTo config old es replies verdicts
    → ((h : List Event) → IsAfter 0 config old h → HasFollowed 0 config new e h replies more verdicts judged) → HasRunTo config new (es ++ e ∷ []) more judged
run_more config old new es e replies more verdicts judged r f =
    let next = f r.history r.is_after in
    record {
      history = next.next;
      runs = subst (λ v. Runs 0 config [] (es ++ e ∷ []) next.next v) (sym next.judged) (runs-more 0 config es e [] r.history next.next verdicts r.runs next.follows);
      is_after = next.is_after;
      replied = next.replied r.replied;
    }

-- ---- how many messages came

plus_none : (n : ℕ) → n ≡ n + 0
plus_none n = omega arith

messages-come : (o : ℕ) (config : Configuration) (e : Incoming) (h after : List Event) → Extends o config e h after → length (messages after) ≡ length (messages h) + length (filter is_message (e ∷ []))
messages-come o config (Message body) h after comes = ap (λ g. length (messages g)) comes ∙ length-append (messages h) (body ∷ [])
messages-come o config (Made path stamp text) h after comes = ap (λ g. length (messages g)) comes ∙ plus_none (length (messages h))
messages-come o config (Failed path stamp) h after comes = ap (λ g. length (messages g)) comes ∙ plus_none (length (messages h))
messages-come o config Work h after comes = ap (λ g. length (messages g)) comes.is ∙ ap length (messages-rounds o config comes.rounds h) ∙ plus_none (length (messages h))

messages-follow : (o : ℕ) (config : Configuration) (e : Incoming) (h last : List Event) → Follows o config e h last → length (messages last) ≡ length (messages h) + length (filter is_message (e ∷ []))
messages-follow o config e h last f = ap length (ap messages f.is ∙ messages-steps f.steps f.after) ∙ messages-come o config e h f.after f.comes

one-more : (e : Incoming) (es : List Incoming) → length (filter is_message (e ∷ es)) ≡ length (filter is_message (e ∷ [])) + length (filter is_message es)
one-more (Message body) es = omega arith
one-more (Made path stamp text) es = omega arith
one-more (Failed path stamp) es = omega arith
one-more Work es = omega arith

messages-run : (o : ℕ) (config : Configuration) (es : List Incoming) (h last : List Event) (verdicts : List Verdict) → Runs o config h es last verdicts → length (messages last) ≡ length (messages h) + length (filter is_message es)
messages-run o config [] h last verdicts runs = let same = ap (λ g. length (messages g)) runs.0 in omega (arith, same)
messages-run o config (e ∷ es) h last verdicts runs =
    let first = messages-follow o config e h runs.0 runs.1 in
    let later = messages-run o config es runs.0 last runs.2.0 runs.2.2 in
    omega (arith, first, later, one-more e es)

counted-append : (es later : List Incoming) → length (filter is_message (es ++ later)) ≡ length (filter is_message es) + length (filter is_message later)
counted-append [] later = omega arith
counted-append (e ∷ es) later = omega (arith, one-more e (es ++ later), one-more e es, counted-append es later)

-- an advance behind an event found no stamp
pub out_behind : (o : ℕ) (config : Configuration) (core : CoreState) (e : Incoming) (h : List Event) → HasCome o config core e h → ((g : List Event) → IsAfter o config core g → FindsNoStamp o config g)
    → ExhaustsStamps o config (length (messages h) + length (filter is_message (e ∷ [])))
out_behind o config core e h come out = subst (λ n. ExhaustsStamps o config n) (messages-come o config e h come.after come.comes) (exhausts_stamps o config come.after (out come.after come.is_after))

-- an event of a run found none
pub run_out : (config : Configuration) (core : CoreState) (es : List Incoming) (e : Incoming) (later all : List Incoming) (replies : List (List ℕ)) (verdicts : List Verdict) → HasRunTo config core es replies verdicts → es ++ e ∷ later ≡ all
    → ((h : List Event) → IsAfter 0 config core h → ExhaustsStamps 0 config (length (messages h) + length (filter is_message (e ∷ [])))) → ExhaustsStamps 0 config (length (filter is_message all))
run_out config core es e later all replies verdicts r parts out =
    let ran = messages-run 0 config es [] r.history verdicts r.runs in
    let here = out r.history r.is_after in
    omega (arith, ran, here, counted-append es (e ∷ later), one-more e later, ap (λ l. length (filter is_message l)) parts)

-- those that are left aren't processed
pub run_counted : (config : Configuration) (core : CoreState) (es : List Incoming) (replies : List (List ℕ)) (verdicts : List Verdict) → (r : HasRunTo config core es replies verdicts)
    → length (filter is_message es) ≡ processed r.history + unprocessed core
run_counted config core es replies verdicts r =
    let came = messages-run 0 config es [] r.history verdicts r.runs in
    let left = unprocessed-is 0 config core r.history r.is_after in
    let known = processed-known 0 config r.history r.is_after.legal in
    omega (arith, came, left, known)

pub has_run : (config : Configuration) (core : CoreState) (es : List Incoming) (replies : List (List ℕ)) (verdicts : List Verdict) (count : ℕ) → (r : HasRunTo config core es replies verdicts) → count ≡ processed r.history → HasRun config es replies verdicts count
has_run config core es replies verdicts count r counted = record { history = r.history; runs = r.runs; replied = r.replied; counted = counted }

-- the messages among some events, as they were listed
listed-more : (b : Bool) (event : CoreEvent) (events : List CoreEvent) → length (filter (λ e. is_message (incoming_of e)) events) ≡ length (filter is_message (map incoming_of events))
    → length (cond b (event ∷ filter (λ e. is_message (incoming_of e)) events) (filter (λ e. is_message (incoming_of e)) events)) ≡ length (cond b (incoming_of event ∷ filter is_message (map incoming_of events)) (filter is_message (map incoming_of events)))
listed-more true event events behind = ap suc behind
listed-more false event events behind = behind

pub messages-listed : (events : List CoreEvent) → length (filter (λ e. is_message (incoming_of e)) events) ≡ length (filter is_message (map incoming_of events))
messages-listed [] = refl
messages-listed (event ∷ events) = listed-more (is_message (incoming_of event)) event events (messages-listed events)
