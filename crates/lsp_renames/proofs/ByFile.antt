-- The places of one file at the front of some places.
use Rattle.std.proofs.Common.{◌≡◌, ◌==◌, ℕ, zero, suc, ◌+◌, ◌<◌, true, false, List, [], ◌∷◌, ◌++◌, length, take, drop, get_or, map, refl, ap, sym, subst, ◌∙◌, arith, IfSome}
use Rattle.std.specs.Prelude.{All, if◌then◌else◌}
use Rattle.std.specs.List.{slice_get}
use Rattle.std.proofs.lemmas.Bool.Decides.{nat_tests}
use Rattle.std.proofs.lemmas.List.Elements.{All-cons}
use Rattle.lsp_queries.specs.declared.place.Place.{Place}
use Rattle.lsp_renames.specs.ByFile.{behind, by_file, later}

same : (n : ℕ) → (n == n) ≡ true
same n = grind (arith, nat_tests)

-- a place, and those that stand behind it in its file
run : (file : ℕ) (p : Place) (ps : List Place) (n : ℕ) → p.file ≡ file → All (λ q. q.file ≡ file) (take n ps) → IfSome (slice_get ps n) (λ q. (q.file == file) ≡ false) → by_file (p ∷ ps) ≡ (file, p ∷ take n ps) ∷ by_file (drop n ps)
run file p [] zero is all ends = ap (λ f. (f, p ∷ []) ∷ []) is
run file p [] (suc n) is all ends = ap (λ f. (f, p ∷ []) ∷ []) is
run file p (q ∷ qs) zero is all ends =
    let rest = by_file (q ∷ qs) in
    let own : List Place = q ∷ behind q.file (by_file qs) in
    let more = later q.file (by_file qs) in
    ap (λ f. (f, p ∷ behind f rest) ∷ later f rest) is
    ∙ ap (λ b. (file, p ∷ (if b then own else [])) ∷ (if b then more else rest)) ends
run file p (q ∷ qs) (suc n) is all ends =
    let next : by_file (q ∷ qs) ≡ (file, q ∷ take n qs) ∷ by_file (drop n qs) = run file q qs n (all 0 q (omega arith)) (λ k d lt. all (suc k) d (omega (arith, lt))) ends in
    ap (λ f. (f, p ∷ behind f (by_file (q ∷ qs))) ∷ later f (by_file (q ∷ qs))) is
    ∙ ap (λ gs. (file, p ∷ behind file gs) ∷ later file gs) next
    ∙ ap (λ b. (file, p ∷ (if b then q ∷ take n qs else [])) ∷ (if b then by_file (drop n qs) else (file, q ∷ take n qs) ∷ by_file (drop n qs))) (same file)

pub first_run : (ps : List Place) (n : ℕ) (d : Place) → 0 < length ps → All (λ q. q.file ≡ (get_or ps 0 d).file) (take n (drop 1 ps)) → IfSome (slice_get (drop 1 ps) n) (λ q. (q.file == (get_or ps 0 d).file) ≡ false)
    → by_file ps ≡ ((get_or ps 0 d).file, take (1 + n) ps) ∷ by_file (drop (1 + n) ps)
first_run [] n d lt all ends = absurd (omega (arith, lt))
first_run (p ∷ ps) n d lt all ends =
    let count : suc n ≡ 1 + n = omega arith in
    run p.file p ps n refl all ends ∙ ap (λ k. (p.file, take k (p ∷ ps)) ∷ by_file (drop k (p ∷ ps))) count

-- the first place and those behind it in its file
pub own_run : (ps : List Place) (n : ℕ) (d : Place) → 0 < length ps → All (λ q. q.file ≡ (get_or ps 0 d).file) (take n (drop 1 ps)) → All (λ q. q.file ≡ (get_or ps 0 d).file) (take (1 + n) ps)
own_run [] n d lt all = absurd (omega (arith, lt))
own_run (p ∷ ps) n d lt all =
    let count : suc n ≡ 1 + n = omega arith in
    subst (λ k. All (λ q. q.file ≡ p.file) (take k (p ∷ ps))) count (All-cons (λ q. q.file ≡ p.file) p (take n ps) refl all)

-- one more text, and what is left
pub one_more : {A B G : Type 0} (view : A → B) (f : G → B) (before : List A) (a : A) (g : G) (gs all : List G) → view a ≡ f g → all ≡ g ∷ gs → map view (before ++ a ∷ []) ++ map f gs ≡ map view before ++ map f all
one_more view f [] a g gs all is cut = ap (λ b. b ∷ map f gs) is ∙ sym (ap (map f) cut)
one_more view f (x ∷ before) a g gs all is cut = ap (λ l. view x ∷ l) (one_more view f before a g gs all is cut)
