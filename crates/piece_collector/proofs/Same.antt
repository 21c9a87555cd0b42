-- Boards that have the same keys, and the same slot at each path, are seen alike
use Rattle.std.proofs.Common.{◌≡◌, ℕ, Bool, true, false, cond, List, [], ◌∷◌, Some, None, refl, sym, ap, ◌∙◌, subst, map, unwrap_or, String, string_bytes, BTreeMap}
use Rattle.std.specs.Str.{bytes_eq}
use Rattle.std.specs.String.{string_cmp}
use Rattle.std.specs.declared.alloc.Global.{Global}
use Rattle.std.specs.declared.cmp.Ordering.TheVariants.{Less}
use Rattle.std.specs.Map.{lookup, keys_of}
use Rattle.std.specs.BTreeMap.{IsOrdered, keys}
use Rattle.std.specs.List.{AllByRecursion}
use Rattle.std.specs.List.Sorted.{IsStrictlySortedBy}
use Rattle.std.specs.Cmp.Lexicographic.{slice_cmp, bytes_decides}
use Rattle.std.specs.Ordering.{nat_cmp, is_eq}
use Rattle.std.proofs.lemmas.Map.Text.{is_eq-slice_cmp}
use Rattle.piece_collector.specs.Views.{SlotView, BoardView, shown, seen, slot_of}
use Rattle.piece_collector.proofs.Lends.{sorted_bytes}

abbrev first_or : List (List ℕ) → List ℕ → List ℕ
first_or [] d = d
first_or (x ∷ xs) d = x

abbrev rest_of : List (List ℕ) → List (List ℕ)
rest_of [] = []
rest_of (x ∷ xs) = xs

-- a path before all keys has no slot
none_later : (p : List ℕ) (xs : List (List ℕ × SlotView)) → AllByRecursion (λ q. slice_cmp nat_cmp p q ≡ Less) (map (λ e. e.0) xs) → lookup (λ q. bytes_eq p q) xs ≡ None
none_later p [] a = refl
none_later p (e ∷ xs) a = let d : bytes_eq p e.0 ≡ false = sym (is_eq-slice_cmp p e.0) ∙ ap is_eq a.0 in rw d (none_later p xs a.1)

same_entries : (xs ys : List (List ℕ × SlotView)) → map (λ e. e.0) xs ≡ map (λ e. e.0) ys → IsStrictlySortedBy (slice_cmp nat_cmp) (map (λ e. e.0) ys)
    → ((p : List ℕ) → lookup (λ q. bytes_eq p q) xs ≡ lookup (λ q. bytes_eq p q) ys) → xs ≡ ys
unfolding IsStrictlySortedBy
same_entries [] [] k s h = refl
same_entries [] (y ∷ ys) k s h = absurd (cc)
same_entries (x ∷ xs) [] k s h = absurd (cc)
same_entries (x ∷ xs) (y ∷ ys) k s h =
    let key : x.0 ≡ y.0 = ap (λ l. first_or l x.0) k in
    let more : map (λ e. e.0) xs ≡ map (λ e. e.0) ys = ap rest_of k in
    let self : bytes_eq y.0 y.0 ≡ true = (bytes_decides y.0 y.0).1 refl in
    let found : Some x.1 ≡ Some y.1 = rw (ap (bytes_eq y.0) key ∙ self, self) at (h y.0) in
    let value : x.1 ≡ y.1 = ap (λ o. unwrap_or o x.1) found in
    let P : List (List ℕ) → Type 0 = λ l. AllByRecursion (λ q. slice_cmp nat_cmp y.0 q ≡ Less) l in
    let none : lookup (λ q. bytes_eq y.0 q) xs ≡ lookup (λ q. bytes_eq y.0 q) ys = none_later y.0 xs (subst P (sym more) s.0) ∙ sym (none_later y.0 ys s.0) in
    let rest = same_entries xs ys more s.1 (λ p. at p (bytes_eq p y.0) refl (ap (bytes_eq p) key) none (h p)) in
    λ i. (key i, value i) ∷ rest i
  where
    at : (p : List ℕ) (b : Bool) → bytes_eq p y.0 ≡ b → bytes_eq p x.0 ≡ bytes_eq p y.0 → lookup (λ q. bytes_eq y.0 q) xs ≡ lookup (λ q. bytes_eq y.0 q) ys
        → cond (bytes_eq p x.0) (Some x.1) (lookup (λ q. bytes_eq p q) xs) ≡ cond (bytes_eq p y.0) (Some y.1) (lookup (λ q. bytes_eq p q) ys) → lookup (λ q. bytes_eq p q) xs ≡ lookup (λ q. bytes_eq p q) ys
    at p true e d none h =
        let Q : List ℕ → Type 0 = λ r. lookup (λ q. bytes_eq r q) xs ≡ lookup (λ q. bytes_eq r q) ys in
        subst Q (sym ((bytes_decides p y.0).0 e)) none
    at p false e d none h = rw (d ∙ e, e) at h

shown_keys : (l : Bool) (es : List (String Global × SlotView)) → map (λ e. e.0) (map (shown l) es) ≡ map (λ e. string_bytes e.0) es
shown_keys l [] = refl
shown_keys l (e ∷ es) = ap (λ ps. string_bytes e.0 ∷ ps) (shown_keys l es)

bytes_of_keys : (es : List (String Global × SlotView)) → map (λ e. string_bytes e.0) es ≡ map string_bytes (keys_of es)
bytes_of_keys [] = refl
bytes_of_keys (e ∷ es) = ap (λ ps. string_bytes e.0 ∷ ps) (bytes_of_keys es)

-- what changed of a board is at most whether it is lent
pub seen_as : (m n : BTreeMap (String Global) SlotView) (last : ℕ) (l a b : Bool) (v : BoardView) → seen last m l ≡ v → v.is_lent ≡ a → keys n ≡ keys m → IsOrdered string_cmp m
    → ((p : List ℕ) → slot_of p (seen last n b) ≡ slot_of p v) → seen last n b ≡ record v { is_lent = b }
seen_as m n last l a b v is here same sorted each =
    let e : l ≡ a = ap (λ w. w.is_lent) is ∙ here in
    let is_a : seen last m a ≡ v = ap (λ w. seen last m w) (sym e) ∙ is in
    let P : List (List ℕ) → Type 0 = λ ps. IsStrictlySortedBy (slice_cmp nat_cmp) ps in
    let slots : map (shown b) n.entries ≡ map (shown a) m.entries = same_entries (map (shown b) n.entries) (map (shown a) m.entries)
    (shown_keys b n.entries ∙ (bytes_of_keys n.entries ∙ (ap (map string_bytes) same ∙ (sym (bytes_of_keys m.entries) ∙ sym (shown_keys a m.entries)))))
    (subst P (sym (shown_keys a m.entries)) (sorted_bytes m.entries sorted)) (λ p. each p ∙ sym (ap (slot_of p) is_a)) in
    let all : map (shown b) n.entries ≡ v.slots = slots ∙ ap (λ w. w.slots) is_a in
    λ i. record { last = ap (λ w. w.last) is i; slots = all i; is_lent = b }

-- a map with the keys of an ordered one is ordered
pub ordered_as : (m n : BTreeMap (String Global) SlotView) → keys n ≡ keys m → IsOrdered string_cmp m → IsOrdered string_cmp n
ordered_as m n same sorted = let P : List (String Global) → Type 0 = λ ks. IsStrictlySortedBy string_cmp ks in subst P (sym same) sorted
