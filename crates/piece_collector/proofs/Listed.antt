-- A run of listed events, event by event
use Rattle.std.proofs.Common.{◌≡◌, ℕ, List, [], ◌∷◌, ◌++◌, map, refl, sym, ap, ◌∙◌, subst}
use Rattle.piece_collector.specs.declared.fault.BoardFault.{BoardFault}
use Rattle.piece_collector.specs.declared.verdict.Verdict.{Verdict}
use Rattle.piece_collector.specs.Events.{Event}
use Rattle.piece_collector.specs.History.{verdicts, answer}
use Rattle.piece_collector.specs.Views.{BoardView}
use Rattle.piece_collector.specs.Board.{IsAfter}
use Rattle.piece_collector.specs.Runs.{followed, IsRefusedWith, Ran, Stopped}

pub joined : {X : Type 0} (xs ys zs : List X) → (xs ++ ys) ++ zs ≡ xs ++ (ys ++ zs)
joined [] ys zs = refl
joined (x ∷ xs) ys zs = ap (λ l. x ∷ l) (joined xs ys zs)

followed_more : {X : Type 0} (f : X → Event) (h : List Event) (xs : List X) (x : X) → followed h (map f (xs ++ x ∷ [])) ≡ f x ∷ followed h (map f xs)
followed_more f h [] x = refl
followed_more f h (y ∷ xs) x = followed_more f (f y ∷ h) xs x

-- one more event was done
pub ran_more : {X : Type 0} (f : X → Event) (o : ℕ) (h : List Event) (xs : List X) (x : X) (b b' : BoardView) (vs vs' : List Verdict) → Ran o h (map f xs) b vs
    → ((o : ℕ) (h : List Event) → IsAfter o b h → IsAfter o b' (f x ∷ h)) → ((o : ℕ) (h : List Event) → IsAfter o b h → vs' ≡ vs ++ answer o h (f x)) → Ran o h (map f (xs ++ x ∷ [])) b' vs'
ran_more f o h xs x b b' vs vs' r step answers =
    let P : List Event → Type 0 = λ l. IsAfter o b' l in
    record {
      is_after = subst P (sym (followed_more f h xs x)) (step o (followed h (map f xs)) r.is_after);
      answers = ap (verdicts o) (followed_more f h xs x)
          ∙ (ap (λ l. l ++ answer o (followed h (map f xs)) (f x)) r.answers
          ∙ (joined (verdicts o h) vs (answer o (followed h (map f xs)) (f x)) ∙ ap (λ l. verdicts o h ++ l) (sym (answers o (followed h (map f xs)) r.is_after))));
    }

map_parts : {X : Type 0} (f : X → Event) (xs : List X) (x : X) (ys : List X) → map f (xs ++ x ∷ ys) ≡ map f xs ++ f x ∷ map f ys
map_parts f [] x ys = refl
map_parts f (y ∷ xs) x ys = ap (λ l. f y ∷ l) (map_parts f xs x ys)

-- the next event was refused
pub stopped_at : {X : Type 0} (f : X → Event) (o : ℕ) (h : List Event) (all xs : List X) (x : X) (ys : List X) (b b' : BoardView) (vs : List Verdict) (fault : BoardFault) → xs ++ x ∷ ys ≡ all → b' ≡ b
    → IsRefusedWith b.last (f x) fault → Ran o h (map f xs) b vs → Stopped o h (map f all) b' fault
stopped_at f o h all xs x ys b b' vs fault is same refused r =
    let S : BoardView → Type 0 = λ w. IsAfter o w (followed h (map f xs)) in
    let R : BoardView → Type 0 = λ w. IsRefusedWith w.last (f x) fault in
    record { before = map f xs; event = f x; later = map f ys; parts = ap (map f) (sym is) ∙ map_parts f xs x ys; is_after = subst S (sym same) r.is_after; refused = subst R (sym same) refused }
