-- What is put back into slots in turn
use Rattle.std.proofs.Common.{◌≡◌, ℕ, Bool, true, false, cond, List, [], ◌∷◌, Option, Some, None, refl, sym, ap, ◌∙◌, option_map, map, unwrap_or, subst, IfSome, String, string_bytes, BTreeMap}
use Rattle.std.specs.Str.{bytes_eq}
use Rattle.std.specs.String.{string_cmp}
use Rattle.std.specs.declared.alloc.Global.{Global}
use Rattle.std.specs.declared.cmp.Ordering.TheVariants.{Less, Greater}
use Rattle.std.specs.Map.{lookup}
use Rattle.std.specs.Map.Calls.{RetainsPairs}
use Rattle.std.specs.BTreeMap.{is_at, get_by_text, IsOrdered}
use Rattle.std.specs.List.{AllByRecursion}
use Rattle.std.specs.List.Sorted.{IsStrictlySortedBy}
use Rattle.std.specs.Cmp.Lexicographic.{slice_cmp, nat_list_cmp_total, nat_list_eq_equiv, bytes_decides}
use Rattle.std.specs.Ordering.{nat_cmp, is_eq, ordering_reverse}
use Rattle.std.proofs.lemmas.Map.Text.{is_eq-slice_cmp}
use Rattle.piece_collector.specs.Views.{SlotView, BoardView, TextAt, text_in, as_lent, shown, seen, slot_of, is_unheld}
use Rattle.piece_collector.specs.Lending.{given, TakesNext}
use Rattle.piece_collector.specs.Board.{text_for, IsTextsIn, Ascends}
use Rattle.piece_collector.proofs.Index.{slot_lent}
use Rattle.piece_collector.proofs.Lends.{sorted_bytes}

given_none : (es : List (String Global × SlotView)) → given es [] ≡ es
given_none [] = refl
given_none (e ∷ es) = refl

-- a closure that gives each slot the next piece
pub given_by : {F : Type 0} (T : F → String Global → SlotView → Bool → SlotView → F → Type 0) (left : F → List TextAt)
    → ((f : F) (k : String Global) (v : SlotView) (b : Bool) (w : SlotView) (f' : F) → T f k v b w f' → (b ≡ true) × TakesNext (left f) v w (left f'))
    → (f : F) (es kept : List (String Global × SlotView)) → RetainsPairs T f es kept → kept ≡ given es (left f)
given_by T left h f [] kept r = r
given_by T left h f (e ∷ es) kept r =
    let a = h f e.0 e.1 r.0 r.1 r.2 r.4 in
    r.6 ∙ (ap (λ b. cond b ((e.0, r.1) ∷ r.3) r.3) a.0 ∙ at (left f) a.1 (given_by T left h r.2 es r.3 r.5))
  where
    at : (ts : List TextAt) → TakesNext ts e.1 r.1 (left r.2) → r.3 ≡ given es (left r.2) → (e.0, r.1) ∷ r.3 ≡ given (e ∷ es) ts
    at [] m q = let rest : r.3 ≡ es = q ∙ (ap (given es) m.1 ∙ given_none es) in λ i. (e.0, m.0 i) ∷ rest i
    at (t ∷ ts) m q = let rest : r.3 ≡ given es ts = q ∙ ap (given es) m.1 in λ i. (e.0, m.0 i) ∷ rest i

-- what the texts are of that give each slot back the piece that it had
abbrev texts_of_all : List (String Global × SlotView) → List TextAt
texts_of_all es = map (λ e. text_in (string_bytes e.0) e.1) es

texts_seen : (es : List (String Global × SlotView)) (p : List ℕ) → text_for p (texts_of_all es) ≡ option_map (text_in p) (lookup (is_at (λ k. slice_cmp nat_cmp p (string_bytes k))) es)
texts_seen [] p = refl
texts_seen (e ∷ es) p = rw is_eq-slice_cmp (at (bytes_eq p (string_bytes e.0)) refl (texts_seen es p))
  where
    at : (b : Bool) → bytes_eq p (string_bytes e.0) ≡ b → text_for p (texts_of_all es) ≡ option_map (text_in p) (lookup (is_at (λ k. slice_cmp nat_cmp p (string_bytes k))) es)
        → cond b (Some (text_in (string_bytes e.0) e.1)) (text_for p (texts_of_all es)) ≡ option_map (text_in p) (cond b (Some e.1) (lookup (is_at (λ k. slice_cmp nat_cmp p (string_bytes k))) es))
    at true h r = ap (λ q. Some (text_in q e.1)) (sym ((bytes_decides p (string_bytes e.0)).0 h))
    at false h r = r

-- no text of these is at p
no_text : (p k : List ℕ) (ts : List TextAt) → AllByRecursion (λ y. slice_cmp nat_cmp k y ≡ Less) (map (λ t. t.path) ts) → bytes_eq k p ≡ true → text_for p ts ≡ None
no_text p k [] a e = refl
no_text p k (t ∷ ts) a e = at (bytes_eq p t.path) refl (no_text p k ts a.1 e)
  where
    at : (b : Bool) → bytes_eq p t.path ≡ b → text_for p ts ≡ None → cond b (Some t) (text_for p ts) ≡ None
    at true d r = absurd (let x : bytes_eq k t.path ≡ true = ap (bytes_eq k) (sym ((bytes_decides p t.path).0 d)) ∙ e in let y : true ≡ false = sym x ∙ (sym (is_eq-slice_cmp k t.path) ∙ ap is_eq a.0) in cc)
    at false d r = r

-- a path that has a text among these comes after k
found_after : (p k : List ℕ) (ts : List TextAt) (x : TextAt) → AllByRecursion (λ y. slice_cmp nat_cmp k y ≡ Less) (map (λ t. t.path) ts) → text_for p ts ≡ Some x → slice_cmp nat_cmp k p ≡ Less
found_after p k [] x a e = absurd (cc)
found_after p k (t ∷ ts) x a e = at (bytes_eq p t.path) refl e (found_after p k ts x a.1)
  where
    at : (b : Bool) → bytes_eq p t.path ≡ b → cond b (Some t) (text_for p ts) ≡ Some x → (text_for p ts ≡ Some x → slice_cmp nat_cmp k p ≡ Less) → slice_cmp nat_cmp k p ≡ Less
    at true d e f = ap (slice_cmp nat_cmp k) ((bytes_decides p t.path).0 d) ∙ a.0
    at false d e f = f e

-- texts that ascend are told by what is at each path
same_texts : (ts us : List TextAt) → Ascends ts → Ascends us → ((p : List ℕ) → text_for p ts ≡ text_for p us) → ts ≡ us
unfolding IsStrictlySortedBy
same_texts [] [] a b h = refl
same_texts [] (u ∷ us) a b h = absurd (let x : None ≡ Some u = rw ((bytes_decides u.path u.path).1 refl) at (h u.path) in cc)
same_texts (t ∷ ts) [] a b h = absurd (let x : Some t ≡ None = rw ((bytes_decides t.path t.path).1 refl) at (h t.path) in cc)
same_texts (t ∷ ts) (u ∷ us) a b h = at (bytes_eq t.path u.path) refl (same_texts ts us a.1 b.1)
  where
    self : (p : List ℕ) → bytes_eq p p ≡ true
    self p = (bytes_decides p p).1 refl

    rest : t ≡ u → (p : List ℕ) (c : Bool) → bytes_eq p t.path ≡ c → text_for p ts ≡ text_for p us
    rest s p true e =
        let k : bytes_eq t.path p ≡ true = nat_list_eq_equiv.symm t.path p ∙ e in
        no_text p t.path ts a.0 k ∙ sym (no_text p u.path us b.0 (ap (λ w. bytes_eq w.path p) (sym s) ∙ k))
    rest s p false e = let d : bytes_eq p u.path ≡ false = ap (λ w. bytes_eq p w.path) (sym s) ∙ e in rw (e, d) at (h p)

    at : (c : Bool) → bytes_eq t.path u.path ≡ c → (((p : List ℕ) → text_for p ts ≡ text_for p us) → ts ≡ us) → t ∷ ts ≡ u ∷ us
    at true e f =
        let first : Some t ≡ Some u = rw (self t.path, e) at (h t.path) in
        let s : t ≡ u = ap (λ o. unwrap_or o t) first in
        let more : ts ≡ us = f (λ p. rest s p (bytes_eq p t.path) refl) in
        λ i. s i ∷ more i
    at false e f =
        let d : bytes_eq u.path t.path ≡ false = nat_list_eq_equiv.symm u.path t.path ∙ e in
        let x : Some t ≡ text_for t.path us = rw (self t.path, e) at (h t.path) in
        let y : text_for u.path ts ≡ Some u = rw (d, self u.path) at (h u.path) in
        let l : slice_cmp nat_cmp u.path t.path ≡ Less = found_after t.path u.path us t b.0 (sym x) in
        let r : slice_cmp nat_cmp t.path u.path ≡ Less = found_after u.path t.path ts u a.0 y in
        absurd (let z : Less ≡ Greater = sym r ∙ (nat_list_cmp_total.antisymm t.path u.path ∙ ap ordering_reverse l) in cc)

paths_of_all : (es : List (String Global × SlotView)) → map (λ t. t.path) (texts_of_all es) ≡ map (λ e. string_bytes e.0) es
paths_of_all [] = refl
paths_of_all (e ∷ es) = ap (λ l. string_bytes e.0 ∷ l) (paths_of_all es)

-- the slots with the pieces that were lent of them
abbrev pub all_held : List (String Global × SlotView) → List (String Global × SlotView)
all_held es = map (λ e. (e.0, as_lent (string_bytes e.0) e.1)) es

given_all : (es : List (String Global × SlotView)) → given es (texts_of_all es) ≡ all_held es
given_all [] = refl
given_all (e ∷ es) = ap (λ l. (e.0, as_lent (string_bytes e.0) e.1) ∷ l) (given_all es)

-- the lent texts in turn give each slot its own piece
pub all_back : (m : BTreeMap (String Global) SlotView) (last : ℕ) (l : Bool) (v : BoardView) (ts : List TextAt) → seen last m l ≡ v → v.is_lent ≡ true → IsOrdered string_cmp m → IsTextsIn v ts → given m.entries ts ≡ all_held m.entries
all_back m last l v ts is here sorted texts =
    let P : List (List ℕ) → Type 0 = λ ps. IsStrictlySortedBy (slice_cmp nat_cmp) ps in
    let seen_at : (p : List ℕ) → slot_of p v ≡ option_map (as_lent p) (get_by_text m p) = λ p. ap (slot_of p) (sym is) ∙ slot_lent last m l p (ap (λ b. b.is_lent) is ∙ here) in
    let same : ts ≡ texts_of_all m.entries = same_texts ts (texts_of_all m.entries) texts.ascends (subst P (sym (paths_of_all m.entries)) (sorted_bytes m.entries sorted))
    (λ p. texts.each p ∙ (ap (option_map (text_in p)) (seen_at p) ∙ (plain p (get_by_text m p) ∙ sym (texts_seen m.entries p)))) in
    ap (given m.entries) same ∙ given_all m.entries
  where
    plain : (p : List ℕ) (w : Option SlotView) → option_map (text_in p) (option_map (as_lent p) w) ≡ option_map (text_in p) w
    plain p None = refl
    plain p (Some s) = refl

held_seen : (es : List (String Global × SlotView)) (p : List ℕ) → lookup (is_at (λ k. slice_cmp nat_cmp p (string_bytes k))) (all_held es) ≡ option_map (as_lent p) (lookup (is_at (λ k. slice_cmp nat_cmp p (string_bytes k))) es)
held_seen [] p = refl
held_seen (e ∷ es) p = rw is_eq-slice_cmp (at (bytes_eq p (string_bytes e.0)) refl (held_seen es p))
  where
    at : (b : Bool) → bytes_eq p (string_bytes e.0) ≡ b → lookup (is_at (λ k. slice_cmp nat_cmp p (string_bytes k))) (all_held es) ≡ option_map (as_lent p) (lookup (is_at (λ k. slice_cmp nat_cmp p (string_bytes k))) es)
        → cond b (Some (as_lent (string_bytes e.0) e.1)) (lookup (is_at (λ k. slice_cmp nat_cmp p (string_bytes k))) (all_held es)) ≡ option_map (as_lent p) (cond b (Some e.1) (lookup (is_at (λ k. slice_cmp nat_cmp p (string_bytes k))) es))
    at true h r = ap (λ q. Some (as_lent q e.1)) (sym ((bytes_decides p (string_bytes e.0)).0 h))
    at false h r = r

-- each of them is held, by a piece of its current text
pub held_at : (m n : BTreeMap (String Global) SlotView) → n.entries ≡ all_held m.entries → (p : List ℕ) → (is_unheld (get_by_text n p) ≡ false) × IfSome (get_by_text n p) (λ s. IfSome s.piece (λ piece. piece ≡ text_in p s))
held_at m n e p =
    let is : get_by_text n p ≡ option_map (as_lent p) (get_by_text m p) = ap (lookup (is_at (λ k. slice_cmp nat_cmp p (string_bytes k)))) e ∙ held_seen m.entries p in
    let Q : Option SlotView → Type 0 = λ w. IfSome w (λ s. IfSome s.piece (λ piece. piece ≡ text_in p s)) in
    (ap is_unheld is ∙ held (get_by_text m p), subst Q (sym is) (current (get_by_text m p)))
  where
    held : (w : Option SlotView) → is_unheld (option_map (as_lent p) w) ≡ false
    held None = refl
    held (Some s) = refl

    current : (w : Option SlotView) → IfSome (option_map (as_lent p) w) (λ s. IfSome s.piece (λ piece. piece ≡ text_in p s))
    current None = tt
    current (Some s) = refl

shown_held : (es : List (String Global × SlotView)) → map (shown false) (all_held es) ≡ map (shown true) es
shown_held [] = refl
shown_held (e ∷ es) = ap (λ l. (string_bytes e.0, as_lent (string_bytes e.0) e.1) ∷ l) (shown_held es)

-- and they are seen as while they were lent
pub seen_back : (m n : BTreeMap (String Global) SlotView) (last : ℕ) (l : Bool) (v : BoardView) → seen last m l ≡ v → v.is_lent ≡ true → n.entries ≡ all_held m.entries → seen last n false ≡ record v { is_lent = false }
seen_back m n last l v is here e =
    let lent : l ≡ true = ap (λ b. b.is_lent) is ∙ here in
    let all : map (shown false) n.entries ≡ v.slots = ap (map (shown false)) e ∙ (shown_held m.entries ∙ ap (λ w. w.slots) (ap (λ b. seen last m b) (sym lent) ∙ is)) in
    λ i. record { last = ap (λ w. w.last) is i; slots = all i; is_lent = false }
