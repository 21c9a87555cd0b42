-- The items of a body are those of the relation, and no others are.
use Rattle.std.proofs.Common.{◌≡◌, ◌<◌, Bool, true, false, List, [], ◌∷◌, ◌++◌, length, refl, sym, ap, ◌∙◌, arith, append_assoc, append-nil}
use Rattle.std.specs.Prelude.{IsTrue}
use Rattle.std.proofs.lemmas.Bool.{false≢true}
use Rattle.proto_tree.specs.declared.lexeme.Lexeme.{Lexeme}
use Rattle.proto_tree.specs.declared.lexeme.Body.{Body}
use Rattle.proto_tree.specs.Cut.{ends, items_from, items, AreItems}
use Rattle.proto_tree.proofs.ItemEnds.{ends-rest}

-- no shorter front of it ends
abbrev pub NoSooner : Body → List Lexeme → List Lexeme → Type 0
NoSooner body item rest = (front : List Lexeme) (t u : Lexeme) (more : List Lexeme) → item ≡ (front ++ t ∷ []) ++ u ∷ more → ¬ IsTrue (ends body (front ++ t ∷ []) (u ∷ more ++ rest))

not_true : (b : Bool) → ¬ (b ≡ true) → b ≡ false
not_true true h = absurd (h refl)
not_true false h = refl

-- where an item ends, and no sooner, it is the next one
grown : (body : Body) (front rest : List Lexeme) (t : Lexeme) (back item : List Lexeme) → item ≡ front ++ t ∷ back → IsTrue (ends body item rest) → NoSooner body item rest
    → items_from body front ((t ∷ back) ++ rest) ≡ item ∷ items_from body [] rest
unfolding items_from
grown body front rest t [] item is e sooner = rw (← is) (rw e refl)
grown body front rest t (u ∷ back) item is e sooner =
    let longer : item ≡ (front ++ t ∷ []) ++ u ∷ back = is ∙ sym (append_assoc front (t ∷ []) (u ∷ back)) in
    let goes_on : ends body (front ++ t ∷ []) (u ∷ back ++ rest) ≡ false = not_true _ (sooner front t u back longer) in
    rw goes_on (grown body (front ++ t ∷ []) rest u back item longer e sooner)

pub only : (body : Body) (ts : List Lexeme) (others : List (List Lexeme)) → AreItems body ts others → others ≡ items body ts
unfolding items_from
only body ts [] h = rw h refl
only body ts ([] ∷ more) h = absurd (h.2.some refl)
only body ts ((t ∷ back) ∷ more) h =
    rw h.1 (ap (λ l. (t ∷ back) ∷ l) (only body h.0 more h.3) ∙ sym (grown body [] h.0 t back (t ∷ back) refl h.2.ends_here h.2.no_sooner))

-- ---- the items meet the relation

no_snoc : (zs : List Lexeme) (v : Lexeme) (m : List Lexeme) → [] ≡ zs ++ v ∷ m → ⊥
no_snoc [] v m e = cc
no_snoc (z ∷ zs) v m e = cc

-- what ends in one token, cut before it
snoc : (x y : List Lexeme) (t v : Lexeme) (m : List Lexeme) → x ++ t ∷ [] ≡ y ++ v ∷ m → (b : List Lexeme) × (x ≡ y ++ b) × (b ++ t ∷ [] ≡ v ∷ m)
snoc x [] t v m e = (x, refl, e)
snoc [] (z ∷ zs) t v m e = let h : [] ≡ zs ++ v ∷ m = cc in absurd (no_snoc zs v m h)
snoc (w ∷ ws) (z ∷ zs) t v m e =
    let heads : w ≡ z = cc in
    let tails : ws ++ t ∷ [] ≡ zs ++ v ∷ m = cc in
    let r = snoc ws zs t v m tails in
    (r.0, rw heads (ap (λ l. z ∷ l) r.1), r.2)

-- no front of what has come so far ends
abbrev NoneBefore : Body → List Lexeme → List Lexeme → Type 0
NoneBefore body front rest = (a : List Lexeme) (v : Lexeme) (b : List Lexeme) → front ≡ (a ++ v ∷ []) ++ b → ¬ IsTrue (ends body (a ++ v ∷ []) (b ++ rest))

no_sooner : (body : Body) (front : List Lexeme) (t : Lexeme) (rest : List Lexeme) → NoneBefore body front (t ∷ rest) → NoSooner body (front ++ t ∷ []) rest
no_sooner body front t rest none a v u more e =
    let r = snoc front (a ++ v ∷ []) t u more e in
    let same : r.0 ++ t ∷ rest ≡ u ∷ more ++ rest = sym (append_assoc r.0 (t ∷ []) rest) ∙ ap (λ l. l ++ rest) r.2 in
    let here : ¬ IsTrue (ends body (a ++ v ∷ []) (r.0 ++ t ∷ rest)) = none a v r.0 r.1 in
    λ h. here (ap (λ l. ends body (a ++ v ∷ []) l) same ∙ h)

none_in_nil : (body : Body) (rest : List Lexeme) → NoneBefore body [] rest
none_in_nil body rest a v b e h = no_snoc a v b (e ∙ append_assoc a (v ∷ []) b)

not_nil : (front : List Lexeme) (t : Lexeme) → front ++ t ∷ [] ≡ [] → ⊥
not_nil front t e = no_snoc front t [] (sym e)

none_longer : (body : Body) (front : List Lexeme) (t : Lexeme) (rest : List Lexeme) → NoneBefore body front (t ∷ rest) → ends body (front ++ t ∷ []) rest ≡ false → NoneBefore body (front ++ t ∷ []) rest
none_longer body front t rest none f a v [] e h =
    let same : a ++ v ∷ [] ≡ front ++ t ∷ [] = sym (append-nil (a ++ v ∷ [])) ∙ sym e in
    false≢true (sym f ∙ ap (λ l. ends body l rest) (sym same) ∙ h)
none_longer body front t rest none f a v (u ∷ more) e h = no_sooner body front t rest none a v u more e h

pub least : (body : Body) (front rest : List Lexeme) → NoneBefore body front rest → (rest ≡ [] → front ≡ []) → AreItems body (front ++ rest) (items_from body front rest)
unfolding items_from
least body front [] none e = append-nil front ∙ e refl
least body front (t ∷ rest) none e =
    chosen (ends body (front ++ t ∷ []) rest) refl (least body [] rest (none_in_nil body rest) (λ h. refl)) (λ f. least body (front ++ t ∷ []) rest (none_longer body front t rest none f) (λ h. absurd (never f h)))
  where
    never : ends body (front ++ t ∷ []) rest ≡ false → rest ≡ [] → ⊥
    never f h = let more : 0 < length rest = ends-rest body (front ++ t ∷ []) rest f in omega (arith, more, ap length h)

    chosen : (b : Bool) → ends body (front ++ t ∷ []) rest ≡ b → AreItems body rest (items_from body [] rest)
        → (ends body (front ++ t ∷ []) rest ≡ false → AreItems body ((front ++ t ∷ []) ++ rest) (items_from body (front ++ t ∷ []) rest))
        → AreItems body (front ++ t ∷ rest) (items_from body front (t ∷ rest))
    chosen true f after longer = rw f (rest, sym (append_assoc front (t ∷ []) rest), record { some = not_nil front t; ends_here = f; no_sooner = no_sooner body front t rest none }, after)
    chosen false f after longer = rw f (rw append_assoc at (longer f))

pub are_items : (body : Body) (ts : List Lexeme) → AreItems body ts (items body ts)
are_items body ts = least body [] ts (none_in_nil body ts) (λ h. refl)
