-- What jobs, and what the other events, do to how the paths stand
use Rattle.std.proofs.Common.{◌≡◌, ℕ, ◌+◌, Bool, true, false, cond, not, ◌&&◌, ◌||◌, ◌==◌, List, [], ◌∷◌, Option, Some, None, refl, sym, ap, ◌∙◌, option_map, IsTrue}
use Rattle.std.specs.Str.{bytes_eq}
use Rattle.std.specs.List.{list_any}
use Rattle.std.specs.Cmp.Lexicographic.{nat_list_eq_equiv, bytes_decides}
use Rattle.piece_collector.specs.Events.{SetText, Remove, NextJob, Offer, Fail}
use Rattle.piece_collector.specs.History.{Entry, Set, Removed, Gave, Offered, Failed, Wanted, Out, Held, Standing, is_wanted, wants, last, since, sets, text_set, text_of, stamp_of, is_piece, is_out, state_of, standing, history, stands_at}
use Rattle.piece_collector.specs.Laws.{JobsGoToTheFirstWanted}
use Rattle.collector_laws.specs.WorkLaws.{in_state, JobsMakeTheirPathsOut, IsOut, OnlyJobsMakePathsOut}

-- the state of a wanted path once its job is given
out_now : (b l r : Bool) → b ≡ true → IsTrue (is_wanted (cond l Held (cond r Out Wanted))) → cond l Held (cond (b || r) Out Wanted) ≡ Out
out_now true false r e w = refl
out_now true true r e w = absurd (cc)
out_now false l r e w = absurd (cc)

-- how p stands after these later entries with this text, if it has one
abbrev standing_with : ℕ → List ℕ → List Entry → List Entry → Option (List ℕ) → Option Standing
standing_with o p h later v = option_map (λ t. record { text = t; stamp = stamp_of o p h; state = state_of p (stamp_of o p h) t later }) v

job_here : (o : ℕ) (p : List ℕ) (h : List Entry) → IsTrue (wants (standing o p h)) → standing o p (Gave (Some p) ∷ h) ≡ option_map (in_state Out) (standing o p h)
job_here o p h = by (text_of p h)
  where
    by : (v : Option (List ℕ)) → IsTrue (wants (standing_with o p h (since p h) v)) → standing_with o p h (Gave (Some p) ∷ since p h) v ≡ option_map (in_state Out) (standing_with o p h (since p h) v)
    by None w = refl
    by (Some t) w =
        let s = stamp_of o p h in
        ap (λ a. Some (record { text = t; stamp = s; state = a })) (out_now (bytes_eq p p) (list_any (is_piece p s t) (since p h)) (is_out p s (since p h)) ((bytes_decides p p).1 refl) w)

job_elsewhere : (o : ℕ) (p q : List ℕ) (h : List Entry) → bytes_eq q p ≡ false → standing o q (Gave (Some p) ∷ h) ≡ standing o q h
job_elsewhere o p q h e = by (text_of q h)
  where
    by : (v : Option (List ℕ)) → standing_with o q h (Gave (Some p) ∷ since q h) v ≡ standing_with o q h (since q h) v
    by None = refl
    by (Some t) = rw e refl

pub job_makes_out : JobsGoToTheFirstWanted → JobsMakeTheirPathsOut
job_makes_out law o es p first q = ap (λ g. standing o q (Gave g ∷ history o es)) ((law o es (Some p)).0 first) ∙ by (bytes_eq p q) refl
  where
    by : (b : Bool) → bytes_eq p q ≡ b → standing o q (Gave (Some p) ∷ history o es) ≡ cond b (option_map (in_state Out) (stands_at o es p)) (stands_at o es q)
    by true e = ap (λ r. standing o r (Gave (Some p) ∷ history o es)) (sym ((bytes_decides p q).0 e)) ∙ job_here o p (history o es) first.0
    by false e = job_elsewhere o p q (history o es) (nat_list_eq_equiv.symm q p ∙ e)

-- ---- the other events

-- how p stands by its last change, with all before it, and by the entries since
abbrev standing_by : ℕ → List ℕ → List Entry → List Entry → Option Standing
standing_by o p up later = option_map (λ t. record { text = t; stamp = o + sets up; state = state_of p (o + sets up) t later }) (text_set up)

still_out : (piece brought out : Bool) → cond (piece || brought) Held (cond out Out Wanted) ≡ Out → cond brought Held (cond out Out Wanted) ≡ Out
still_out true brought out e = absurd (cc)
still_out false brought out e = e

was_out : (failed brought out : Bool) → cond brought Held (cond (not failed && out) Out Wanted) ≡ Out → cond brought Held (cond out Out Wanted) ≡ Out
was_out true true out e = absurd (cc)
was_out true false out e = absurd (cc)
was_out false brought out e = e

pub only_jobs : OnlyJobsMakePathsOut
only_jobs o (SetText q t) es other p = by (bytes_eq p q)
  where
    h : List Entry
    h = history o es

    by : (b : Bool) → IsOut (standing_by o p (cond b (Set q t ∷ h) (last p h)) (cond b [] (Set q t ∷ since p h))) → IsOut (standing o p h)
    by true i = absurd (cc)
    by false i = i
only_jobs o (Remove q) es other p = by (bytes_eq p q)
  where
    h : List Entry
    h = history o es

    by : (b : Bool) → IsOut (standing_by o p (cond b (Removed q ∷ h) (last p h)) (cond b [] (Removed q ∷ since p h))) → IsOut (standing o p h)
    by true i = absurd i
    by false i = i
only_jobs o NextJob es other p = absurd (other refl)
only_jobs o (Offer q s t) es other p = by (text_of p (history o es))
  where
    h : List Entry
    h = history o es

    by : (v : Option (List ℕ)) → IsOut (standing_with o p h (Offered q s t ∷ since p h) v) → IsOut (standing_with o p h (since p h) v)
    by None i = i
    by (Some u) i = let n = stamp_of o p h in still_out (is_piece p n u (Offered q s t)) (list_any (is_piece p n u) (since p h)) (is_out p n (since p h)) i
only_jobs o (Fail q s) es other p = by (text_of p (history o es))
  where
    h : List Entry
    h = history o es

    by : (v : Option (List ℕ)) → IsOut (standing_with o p h (Failed q s ∷ since p h) v) → IsOut (standing_with o p h (since p h) v)
    by None i = i
    by (Some u) i = let n = stamp_of o p h in was_out (bytes_eq p q && (s == n)) (list_any (is_piece p n u) (since p h)) (is_out p n (since p h)) i
