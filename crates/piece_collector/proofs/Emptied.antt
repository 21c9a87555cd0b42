-- What is taken from all slots at once
use Rattle.std.proofs.Common.{◌≡◌, ℕ, Bool, true, false, cond, List, [], ◌∷◌, ◌++◌, Option, Some, None, refl, sym, ap, ◌∙◌, option_map, option_to_list, map, is_some, IsTrue, IsSome, String, string_bytes, BTreeMap}
use Rattle.std.specs.Str.{bytes_eq}
use Rattle.std.specs.declared.alloc.Global.{Global}
use Rattle.std.specs.Map.{lookup, keys_of, values_of}
use Rattle.std.specs.Map.Calls.{RetainsPairs}
use Rattle.std.specs.BTreeMap.{is_at, get_by_text}
use Rattle.std.specs.List.{list_any}
use Rattle.std.specs.List.Sorted.{IsStrictlySortedBy}
use Rattle.std.specs.Cmp.Lexicographic.{slice_cmp, nat_list_eq_equiv, bytes_decides}
use Rattle.std.specs.Ordering.{nat_cmp}
use Rattle.std.proofs.lemmas.Map.Text.{is_eq-slice_cmp}
use Rattle.piece_collector.specs.Views.{SlotView, TextAt}
use Rattle.piece_collector.specs.Lending.{emptied, piece_in, pieces_in, placed, IsPlaced, TakesAll}
use Rattle.piece_collector.proofs.Listed.{joined}
use Rattle.piece_collector.proofs.Lends.{apart, same_pieces, in_tail}

pub append_none : {X : Type 0} (xs : List X) → xs ++ [] ≡ xs
append_none [] = refl
append_none (x ∷ xs) = ap (λ l. x ∷ l) (append_none xs)

pub kept_more : (ks ls : List SlotView) (x y : SlotView) (rest all : List SlotView) → ls ≡ ks ++ y ∷ [] → y ≡ emptied x → all ≡ x ∷ rest → ls ++ map emptied rest ≡ ks ++ map emptied all
kept_more ks ls x y rest all a e is = ap (λ l. l ++ map emptied rest) a ∙ (joined ks (y ∷ []) (map emptied rest) ∙ (ap (λ w. ks ++ w ∷ map emptied rest) e ∙ ap (λ l. ks ++ map emptied l) (sym is)))

pub taken_more : (ps qs : List TextAt) (x : SlotView) (rest all : List SlotView) → qs ≡ ps ++ option_to_list x.piece → all ≡ x ∷ rest → qs ++ pieces_in rest ≡ ps ++ pieces_in all
taken_more ps qs x rest all e is = ap (λ l. l ++ pieces_in rest) e ∙ (joined ps (option_to_list x.piece) (pieces_in rest) ∙ ap (λ l. ps ++ pieces_in l) (sym is))

placed_none : (es : List (String Global × SlotView)) → placed es [] ≡ es
placed_none [] = refl
placed_none (e ∷ es) = refl

-- a closure that puts the next slot in each place
pub placed_by : {F : Type 0} (T : F → String Global → SlotView → Bool → SlotView → F → Type 0) (left : F → List SlotView)
    → ((f : F) (k : String Global) (v : SlotView) (b : Bool) (w : SlotView) (f' : F) → T f k v b w f' → (b ≡ true) × IsPlaced (left f) v w (left f'))
    → (f : F) (es kept : List (String Global × SlotView)) → RetainsPairs T f es kept → kept ≡ placed es (left f)
placed_by T left h f [] kept r = r
placed_by T left h f (e ∷ es) kept r =
    let a = h f e.0 e.1 r.0 r.1 r.2 r.4 in
    r.6 ∙ (ap (λ b. cond b ((e.0, r.1) ∷ r.3) r.3) a.0 ∙ at (left f) a.1 (placed_by T left h r.2 es r.3 r.5))
  where
    at : (ss : List SlotView) → IsPlaced ss e.1 r.1 (left r.2) → r.3 ≡ placed es (left r.2) → (e.0, r.1) ∷ r.3 ≡ placed (e ∷ es) ss
    at [] m q = let rest : r.3 ≡ es = q ∙ (ap (placed es) m.1 ∙ placed_none es) in λ i. (e.0, m.0 i) ∷ rest i
    at (s ∷ ss) m q = let rest : r.3 ≡ placed es ss = q ∙ ap (placed es) m.1 in λ i. (e.0, m.0 i) ∷ rest i

abbrev first_or : List (String Global) → String Global → String Global
first_or [] d = d
first_or (x ∷ xs) d = x

abbrev rest_of : List (String Global) → List (String Global)
rest_of [] = []
rest_of (x ∷ xs) = xs

-- the emptied slots in their places
pub placed_all : (es ms : List (String Global × SlotView)) → keys_of es ≡ keys_of ms → placed es (map emptied (values_of ms)) ≡ map (λ e. (e.0, emptied e.1)) ms
placed_all [] [] k = refl
placed_all [] (m ∷ ms) k = absurd (cc)
placed_all (e ∷ es) [] k = absurd (cc)
placed_all (e ∷ es) (m ∷ ms) k = let key : e.0 ≡ m.0 = ap (λ l. first_or l e.0) k in let more = placed_all es ms (ap rest_of k) in λ i. (key i, emptied m.1) ∷ more i

some_append : (xs ys : List TextAt) → map {B = Option TextAt} Some (xs ++ ys) ≡ map {B = Option TextAt} Some xs ++ map Some ys
some_append [] ys = refl
some_append (x ∷ xs) ys = ap (λ l. Some x ∷ l) (some_append xs ys)

abbrev slot_in : List (String Global × SlotView) → List ℕ → Option SlotView
slot_in es p = lookup (is_at (λ k. slice_cmp nat_cmp p (string_bytes k))) es

abbrev paths_in : List (String Global × SlotView) → List (List ℕ)
paths_in es = map (λ e. string_bytes e.0) es

all_taken : (es : List (String Global × SlotView)) → IsStrictlySortedBy (slice_cmp nat_cmp) (paths_in es) → ((p : List ℕ) → IsTrue (list_any (bytes_eq p) (paths_in es)) → IsSome (piece_in (slot_in es p)))
    → map {B = Option TextAt} Some (pieces_in (values_of es)) ≡ map (λ p. piece_in (slot_in es p)) (paths_in es)
unfolding IsStrictlySortedBy
all_taken [] s h = refl
all_taken (e ∷ es) s h =
    let k : List ℕ = string_bytes e.0 in
    let self : bytes_eq k k ≡ true = (bytes_decides k k).1 refl in
    let here : slot_in (e ∷ es) k ≡ Some e.1 = rw (is_eq-slice_cmp, self) refl in
    let later : (p : List ℕ) → IsTrue (list_any (bytes_eq p) (paths_in es)) → piece_in (slot_in (e ∷ es) p) ≡ piece_in (slot_in es p) = λ p i. ap piece_in (other p (nat_list_eq_equiv.symm p k ∙ apart k p (paths_in es) s.0 i)) in
    let more = all_taken es s.1 (λ p i. sym (ap is_some (later p i)) ∙ h p (in_tail (bytes_eq p k) i)) in
    at e.1.piece (sym (ap (λ w. is_some (piece_in w)) here) ∙ h k (rw self refl)) (more ∙ sym (same_pieces (slot_in es) (slot_in (e ∷ es)) (paths_in es) later))
    ∙ ap (λ w. piece_in w ∷ map (λ p. piece_in (slot_in (e ∷ es) p)) (paths_in es)) (sym here)
  where
    other : (p : List ℕ) → bytes_eq p (string_bytes e.0) ≡ false → slot_in (e ∷ es) p ≡ slot_in es p
    other p d = rw (is_eq-slice_cmp, d) refl

    at : {ys : List (Option TextAt)} (o : Option TextAt) → IsSome o → map {B = Option TextAt} Some (pieces_in (values_of es)) ≡ ys → map {B = Option TextAt} Some (option_to_list o ++ pieces_in (values_of es)) ≡ o ∷ ys
    at None h q = absurd (cc)
    at (Some t) h q = ap (λ l. Some t ∷ l) q

-- the pieces of the slots are those at their paths
pub takes_all : (m : BTreeMap (String Global) SlotView) (old new : List TextAt) → new ≡ old ++ pieces_in (values_of m.entries) → TakesAll (get_by_text m) (paths_in m.entries) old new
takes_all m old new is s h = ap (map Some) is ∙ (some_append old (pieces_in (values_of m.entries)) ∙ ap (λ l. map {B = Option TextAt} Some old ++ l) (all_taken m.entries s h))

pub emptied_twice : (w : Option SlotView) → option_map emptied (option_map emptied w) ≡ option_map emptied w
emptied_twice None = refl
emptied_twice (Some s) = refl
