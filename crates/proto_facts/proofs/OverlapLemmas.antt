-- Which of the intervals share a number with one of those before them.
use Rattle.std.proofs.Common.{◌≡◌, Bool, false, ◌||◌, ℕ, zero, suc, ◌+◌, ◌<◌, ◌≤◌, List, [], ◌∷◌, ◌++◌, length, take, drop, get_or, refl, sym, ap, ◌∙◌, arith, append_assoc, append-nil, add-one}
use Rattle.std.specs.List.{list_any}
use Rattle.std.proofs.lemmas.List.Folds.{list_any-append}
use Rattle.std.proofs.lemmas.List.{drop_all, take_more}
use Rattle.std.proofs.Math.Seq.{drop-cons}
use Rattle.proto_facts.specs.Reach.{met_after, met_also}
use Rattle.proto_decls.specs.Checks.{overlap}
use Rattle.proto_decls.specs.declared.part.Interval.{Interval}

-- the answer at a place
pub met-at : (before xs : List Interval) (i : ℕ) (d : Interval) → i < length xs → get_or (met_after before xs) i false ≡ list_any (overlap (get_or xs i d)) (before ++ take i xs)
met-at before [] i d lt = absurd (omega arith)
met-at before (x ∷ xs) zero d lt = ap (list_any (overlap x)) (sym (append-nil before))
met-at before (x ∷ xs) (suc i) d lt =
    met-at (before ++ x ∷ []) xs i d (omega arith) ∙ ap (list_any (overlap (get_or xs i d))) (append_assoc before (x ∷ []) (take i xs))

pub length-met : (before xs : List Interval) → length (met_after before xs) ≡ length xs
length-met before [] = refl
length-met before (x ∷ xs) = ap suc (length-met (before ++ x ∷ []) xs)

front-met : (before xs ys : List Interval) → met_after before (xs ++ ys) ≡ met_after before xs ++ met_after (before ++ xs) ys
front-met before [] ys = ap (λ b. met_after b ys) (sym (append-nil before))
front-met before (x ∷ xs) ys =
    ap (λ bs. list_any (overlap x) before ∷ bs)
    (front-met (before ++ x ∷ []) xs ys ∙ ap (λ b. met_after (before ++ x ∷ []) xs ++ met_after b ys) (append_assoc before (x ∷ []) xs))

back-met : (before within ys : List Interval) → met_after (before ++ within) ys ≡ met_also before ys (met_after within ys)
back-met before within [] = refl
back-met before within (y ∷ ys) =
    ap (λ b. b ∷ met_after ((before ++ within) ++ y ∷ []) ys) (list_any-append (overlap y) before within)
    ∙ ap (λ bs. (list_any (overlap y) before || list_any (overlap y) within) ∷ bs)
    (ap (λ b. met_after b ys) (append_assoc before within (y ∷ [])) ∙ back-met before (within ++ y ∷ []) ys)

-- the two halves, and the second against the first
pub both-met : (xs ys : List Interval) → met_after [] xs ++ met_also xs ys (met_after [] ys) ≡ met_after [] (xs ++ ys)
both-met xs ys =
    sym (front-met [] xs ys ∙ ap (λ bs. met_after [] xs ++ bs) (ap (λ b. met_after b ys) (sym (append-nil xs)) ∙ back-met xs [] ys))

-- one more interval, looked at with all before it
pub pairs-more : (good : List Interval) (i : ℕ) (d : Interval) (found new whole : List Bool) (b : Bool) → i < length good
    → found ++ met_after (take i good) (drop i good) ≡ whole → b ≡ list_any (overlap (get_or good i d)) (take i good) → new ≡ found ++ b ∷ []
    → new ++ met_after (take (i + 1) good) (drop (i + 1) good) ≡ whole
pairs-more good i d found new whole b lt so_far is pushed =
    let x = get_or good i d in
    let rest = met_after (take (i + 1) good) (drop (i + 1) good) in
    let split : drop i good ≡ x ∷ drop (i + 1) good = rw add-one (drop-cons good i d lt) in
    let more : take (i + 1) good ≡ take i good ++ x ∷ [] = take_more good i d lt in
    let next : met_after (take i good) (drop i good) ≡ list_any (overlap x) (take i good) ∷ rest =
    ap (met_after (take i good)) split ∙ ap (λ ys. list_any (overlap x) (take i good) ∷ met_after ys (drop (i + 1) good)) (sym more) in
    ap (λ bs. bs ++ rest) (pushed ∙ ap (λ c. found ++ c ∷ []) is)
    ∙ append_assoc found (list_any (overlap x) (take i good) ∷ []) rest
    ∙ ap (λ bs. found ++ bs) (sym next) ∙ so_far

pub pairs-end : (good : List Interval) (i : ℕ) (found whole : List Bool) → length good ≤ i → found ++ met_after (take i good) (drop i good) ≡ whole → found ≡ whole
pairs-end good i found whole past so_far =
    sym (append-nil found) ∙ ap (λ gs. found ++ met_after (take i good) gs) (sym (drop_all i good past)) ∙ so_far

-- one more answer
pub also-next : (before good : List Interval) (met : List Bool) (i : ℕ) (d : Interval) → i < length good → length met ≡ length good
    → met_also before (drop i good) (drop i met) ≡ (list_any (overlap (get_or good i d)) before || get_or met i false) ∷ met_also before (drop (i + 1) good) (drop (i + 1) met)
also-next before good met i d lt long =
    let here : i < length met = omega arith in
    let of_good : drop i good ≡ get_or good i d ∷ drop (i + 1) good = rw add-one (drop-cons good i d lt) in
    let of_met : drop i met ≡ get_or met i false ∷ drop (i + 1) met = rw add-one (drop-cons met i false here) in
    ap (λ gs. met_also before gs (drop i met)) of_good ∙ ap (λ ms. met_also before (get_or good i d ∷ drop (i + 1) good) ms) of_met

pub also-more : (before good : List Interval) (met : List Bool) (i : ℕ) (d : Interval) (found new whole : List Bool) (b : Bool) → i < length good → length met ≡ length good
    → found ++ met_also before (drop i good) (drop i met) ≡ whole → b ≡ (list_any (overlap (get_or good i d)) before || get_or met i false) → new ≡ found ++ b ∷ []
    → new ++ met_also before (drop (i + 1) good) (drop (i + 1) met) ≡ whole
also-more before good met i d found new whole b lt long so_far is pushed =
    let rest = met_also before (drop (i + 1) good) (drop (i + 1) met) in
    ap (λ xs. xs ++ rest) (pushed ∙ ap (λ c. found ++ c ∷ []) is)
    ∙ append_assoc found ((list_any (overlap (get_or good i d)) before || get_or met i false) ∷ []) rest
    ∙ ap (λ xs. found ++ xs) (sym (also-next before good met i d lt long)) ∙ so_far

pub also-end : (before good : List Interval) (met : List Bool) (i : ℕ) (found whole : List Bool) → length good ≤ i
    → found ++ met_also before (drop i good) (drop i met) ≡ whole → found ≡ whole
also-end before good met i found whole past so_far =
    sym (append-nil found) ∙ ap (λ gs. found ++ met_also before gs (drop i met)) (sym (drop_all i good past)) ∙ so_far

abbrev pub no_interval : Interval
no_interval = record { span = record { start = 0; end = 0 }; low = 0; high = 0 }
